-- The answers to lines, one after another.
use Rattle.std.proofs.Common.{◌≡◌, ◌+◌, ◌<◌, ℕ, List, [], ◌∷◌, ◌++◌, sym, ap}
use Rattle.std.proofs.Common.{◌∙◌, subst, append_assoc, take, get_or, length}
use Rattle.std.proofs.lemmas.List.{append-nil, take_more}
use Rattle.domain_core.specs.Domain.{DomainValue}
use Rattle.whole_farm.specs.Places.{Place}
use Rattle.script_replay.specs.declared.asks.AskedLine.{AskedLine}
use Rattle.script_replay.specs.Lines.{ShowsLine, AreLinesFrom}

-- lines that go on well from the domains make all lines well
abbrev pub AreLinesUpTo : List Place → List DomainValue → List AskedLine → List (List ℕ) → List DomainValue → Type 0
AreLinesUpTo plan opened lines texts domains =
    (rest : List AskedLine) (more : List (List ℕ)) → AreLinesFrom plan domains rest more
    → AreLinesFrom plan opened (lines ++ rest) (texts ++ more)

-- before the first line the domains are those of the opening
pub no_line_yet : (plan : List Place) (opened : List DomainValue) → AreLinesUpTo plan opened [] [] opened
no_line_yet plan opened rest more well = well

-- if a further line shows its text, the lines up to it make all lines well
pub line_more : (plan : List Place) (opened : List DomainValue) (lines : List AskedLine) (index : ℕ) (line : AskedLine)
    (texts : List (List ℕ)) (text : List ℕ) (old new : List DomainValue)
    → index < length lines → line ≡ get_or lines index line → AreLinesUpTo plan opened (take index lines) texts old
    → ShowsLine plan line old new text
    → AreLinesUpTo plan opened (take (index + 1) lines) (texts ++ text ∷ []) new
line_more plan opened lines index line texts text old new within is so shows rest more well =
    let before = take index lines in
    let cut : take (index + 1) lines ≡ before ++ line ∷ [] =
    take_more lines index line within ∙ ap (λ (x : AskedLine). before ++ x ∷ []) (sym is) in
    let all : before ++ line ∷ rest ≡ take (index + 1) lines ++ rest =
    sym (append_assoc before (line ∷ []) rest) ∙ ap (λ (xs : List AskedLine). xs ++ rest) (sym cut) in
    let shown : texts ++ text ∷ more ≡ texts ++ text ∷ [] ++ more = sym (append_assoc texts (text ∷ []) more) in
    subst (λ (xs : List AskedLine). AreLinesFrom plan opened xs (texts ++ text ∷ [] ++ more)) all
    (subst (λ (ls : List (List ℕ)). AreLinesFrom plan opened (before ++ line ∷ rest) ls) shown
    (so (line ∷ rest) (text ∷ more) (new, shows, well)))

-- all lines are well if nothing follows them
pub all_well : (plan : List Place) (opened : List DomainValue) (lines : List AskedLine)
    (texts : List (List ℕ)) (domains : List DomainValue)
    → AreLinesUpTo plan opened lines texts domains
    → AreLinesFrom plan opened lines texts
all_well plan opened lines texts domains so =
    subst (λ (xs : List AskedLine). AreLinesFrom plan opened xs texts) (append-nil lines)
    (subst (λ (ls : List (List ℕ)). AreLinesFrom plan opened (lines ++ []) ls) (append-nil texts) (so [] [] tt))
