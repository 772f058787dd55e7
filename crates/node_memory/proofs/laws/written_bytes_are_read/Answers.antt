use Rattle.node_memory.proofs.Writes.{byte_at-with_byte_same, byte_at-with_byte_other, length-with_byte}
use Rattle.node_memory.proofs.laws.written_bytes_are_read.Goals as goal

pub returns-clause-read : goal.returns-clause-read
returns-clause-read c = byte_at-with_byte_same

pub returns-clause-others : goal.returns-clause-others
returns-clause-others c = byte_at-with_byte_other

pub returns-clause-size : goal.returns-clause-size
returns-clause-size c = length-with_byte
