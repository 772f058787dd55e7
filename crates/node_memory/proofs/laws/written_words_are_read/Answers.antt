use Rattle.node_memory.proofs.Writes.{word_at-with_word_same, word_at-with_word_other, word_at-same_word}
use Rattle.node_memory.proofs.Writes.{byte_at-with_word, length-with_word, word_at-unwritten, with_word-unread}
use Rattle.node_memory.proofs.laws.written_words_are_read.Goals as goal

pub returns-clause-read : goal.returns-clause-read
returns-clause-read c = word_at-with_word_same

pub returns-clause-addresses : goal.returns-clause-addresses
returns-clause-addresses c = word_at-same_word

pub returns-clause-others : goal.returns-clause-others
returns-clause-others c = word_at-with_word_other

pub returns-clause-bytes : goal.returns-clause-bytes
returns-clause-bytes c = byte_at-with_word

pub returns-clause-size : goal.returns-clause-size
returns-clause-size c = length-with_word

pub returns-clause-faults : goal.returns-clause-faults
returns-clause-faults c = λ m a w f. (word_at-unwritten m a w f, with_word-unread m a w f)
