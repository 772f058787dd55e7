-- What the operations leave of a row.
use Rattle.std.specs.Prelude.{ℕ, zero, suc, true, List, [], ◌∷◌, Option, slice_set}
use Rattle.std.specs.Option.{option_map}
use Rattle.crossbar.specs.declared.word.Word.{Word}
use Rattle.crossbar.specs.declared.word.Connection.{Connection}
use Rattle.crossbar.specs.Row.{Row}
use Rattle.crossbar.specs.Word.{connection_of, word_after}

-- the words once this is set at an output
abbrev pub words_after : List Word → ℕ → Option Connection → List Word
words_after [] output connection = []
words_after (word ∷ words) zero connection = word_after word connection ∷ words
words_after (word ∷ words) (suc output) connection = word ∷ words_after words output connection

-- a connection made ready
abbrev pub ready_of : Option Connection → Option Connection
ready_of connection = option_map (λ c. record { input = c.input; ready = true }) connection

-- the words once each connection is changed so
abbrev pub each_after : (Option Connection → Option Connection) → List Word → List Word
each_after change [] = []
each_after change (word ∷ words) = word_after word (change (connection_of word)) ∷ each_after change words

-- the row with another word at an output
abbrev pub row_with : Row → ℕ → Word → Row
row_with row output word = record row { words = slice_set row.words output word }

-- the row once this is set at an output
abbrev pub row_after : Row → ℕ → Option Connection → Row
row_after row output connection = record row { words = words_after row.words output connection }

-- the row once each connection is changed so
abbrev pub row_each : (Option Connection → Option Connection) → Row → Row
row_each change row = record row { words = each_after change row.words }
