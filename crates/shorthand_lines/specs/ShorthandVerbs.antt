-- The shorthand verbs. The words are our own.
use Rattle.std.specs.Prelude.{ℕ, List, codes}
use Rattle.shorthand_lines.specs.declared.verb.ShorthandVerb.{ShorthandVerb}
use Rattle.shorthand_lines.specs.declared.verb.ShorthandVerb.TheVariants as shorthand

-- the word of a shorthand verb
abbrev pub shorthand_name : ShorthandVerb → List ℕ
shorthand_name shorthand.Join = codes "join"
shorthand_name shorthand.Send = codes "send"
shorthand_name shorthand.Text = codes "text"
