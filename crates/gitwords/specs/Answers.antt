-- The answers that `gitrepo` prints instead of running a command: their texts, streams and exit statuses.
use Rattle.std.specs.Prelude.{ℕ, List, string_bytes}
use Rattle.gname.specs.Faults.{out_of_memory_text}
use Rattle.gitwords.specs.declared.answer.Answer.{Answer}
use Rattle.gitwords.specs.declared.answer.Answer.TheVariants.{Asked, Usage, Memory}
use Rattle.gitwords.specs.declared.answer.Stream.{Stream}
use Rattle.gitwords.specs.declared.answer.Stream.TheVariants.{Output, Error}

abbrev pub answer_text : Answer → List ℕ
answer_text (Asked text) = string_bytes text
answer_text (Usage text) = string_bytes text
answer_text Memory = out_of_memory_text

-- help and version are printed on standard output, and any other answer on standard error
abbrev pub answer_stream : Answer → Stream
answer_stream (Asked text) = Output
answer_stream (Usage text) = Error
answer_stream Memory = Error

abbrev pub answer_status : Answer → ℕ
answer_status (Asked text) = 0
answer_status (Usage text) = 2
answer_status Memory = 1
