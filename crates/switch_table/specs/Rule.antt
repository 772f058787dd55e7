-- What each seat of the switch table knows, and the rule that every step keeps.
use Rattle.std.specs.Prelude.{◌≡◌, ℕ, List, [], map, length, replicate, drop, Some, slice_get, slice_index, slice_set, Contains}
use mathlib.Core.Option.{some}
use lib.ListN.{get_elem?}
use Rattle.atomic_table.specs.Table.{State, Me, Step}
use Rattle.crossbar.specs.declared.word.Word.{Word}
use Rattle.crossbar.specs.Row.{Row, IsWordOf}
use Rattle.crossbar.specs.Word.{IsAtLeastAsNew}
use Rattle.switch_table.specs.Domains.{AreDisjoint}
use Rattle.switch_table.specs.declared.view.View.{View}

-- the word of these bits
abbrev pub word_of : ℕ → Word
word_of bits = record { bits = bits }

-- bits as new as others, read as words
abbrev pub IsNewer : ℕ → ℕ → Type 0
IsNewer new old = IsAtLeastAsNew (word_of new) (word_of old)

-- the output i may have the word w: its input lies in the domain of the output, and an output of no domain has 0
abbrev pub IsConfined : List (List ℕ) → ℕ → ℕ → Type 0
IsConfined domains i w =
    ((n : ℕ) (d : List ℕ) → slice_get domains n ≡ Some d → Contains d i → IsWordOf d (word_of w))
    × (((n : ℕ) (d : List ℕ) → slice_get domains n ≡ Some d → ¬ Contains d i) → w ≡ 0)

-- the seat alone stores the output i
abbrev pub StoresAlone : View → ℕ → Type 0
StoresAlone v i = (k : ℕ) × (d : List ℕ) × (slice_get v.held k ≡ Some d) × Contains d i

-- what a seat's view says is true of the words of the table
pub record Knows (domains : List (List ℕ)) (words : List ℕ) (v : View) : Type 0 where
  pub plan : v.domains ≡ domains
  pub wide : length v.words ≡ 32
  pub own : (k : ℕ) (d : List ℕ) → slice_get v.held k ≡ Some d → (n : ℕ) × (slice_get domains n ≡ Some d)
  pub separate : AreDisjoint v.held
  -- the words of a domain's outputs are those that its seat's view holds
  pub exact : (i : ℕ) → StoresAlone v i → slice_index words i ≡ slice_index v.words i
  -- each word is at least as new as any seat's view of it, the operator's above all
  pub fresh : (i : ℕ) → IsNewer (slice_index words i) (slice_index v.words i)

-- the rule of the table, between any two steps
pub record IsRuled {S : Type 0} (domains : List (List ℕ)) (s : State S View) : Type 0 where
  pub wide : length s.words ≡ 32
  pub separate : AreDisjoint domains
  pub knows : (seat : ℕ) (v : View) → get_elem? s.views seat ≡ some v → Knows domains s.words v
  -- no two seats have an output in common
  pub apart : (one other i : ℕ) (v w : View) → get_elem? s.views one ≡ some v
      → get_elem? s.views other ≡ some w → StoresAlone v i → StoresAlone w i → one ≡ other
  pub confined : (i : ℕ) → IsConfined domains i (slice_index s.words i)

-- a view that holds these domains, with all words 0
abbrev pub opening_view : List (List ℕ) → List (List ℕ) → View
opening_view domains held = record { domains = domains; held = held; words = replicate 32 0 }

-- the opener, which holds every domain at the opening, and takes no slot
abbrev pub opener_of : List (List ℕ) → Me (Unit {0}) View
opener_of domains = (opening_view domains domains, [])

-- its view once the first domain that it holds is dealt
abbrev pub view_after_first : View → View
view_after_first view = record view { held = drop 1 view.held }

-- the view with another word at an output
abbrev pub with_view_word : View → ℕ → ℕ → View
with_view_word v i w = record v { words = slice_set v.words i w }

-- the row of these ports, with the words that a view has of them
abbrev pub view_row : View → List ℕ → Row
view_row v ports = record { ports = ports; words = map word_of (map (slice_index v.words) ports) }

-- a domain's seat loads its own output: the word is the view's, and no view changes
abbrev pub Read : {S : Type 0} → Step S → Me S View → ℕ → Me S View → Type 0
Read st me found now = (now ≡ me) × (found ≡ slice_index me.0.words st.word)

-- a domain's seat stores its own output
abbrev pub Written : {S : Type 0} → Step S → Me S View → ℕ → Me S View → Type 0
Written st me stored now = now ≡ (with_view_word me.0 st.word st.first, me.1)

-- the operator's seat loads an output
abbrev pub Surveyed : {S : Type 0} → Step S → Me S View → ℕ → Me S View → Type 0
Surveyed st me found now =
    (now ≡ (with_view_word me.0 st.word found, me.1)) × IsNewer found (slice_index me.0.words st.word)
    × IsConfined me.0.domains st.word found
