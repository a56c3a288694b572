-- Document 01, "What the decoder covers": what a job answers, in numbers.
use Rattle.std.specs.Prelude.{ℕ, Result, Ok, Err}
use Rattle.base.specs.Refusals.{number_of}
use Rattle.component.specs.declared.parameters.Answer.{Answer}
use Rattle.component.specs.declared.parameters.Refused.{Refused}

-- 0, and the place of an acceptance; or the number of a refusal, and its place.
abbrev pub answer_of : Result ℕ Refused → Answer
answer_of (Ok place) = record { status = 0; place = place }
answer_of (Err refused) = record { status = number_of refused.refusal; place = refused.place }

-- The same where an acceptance says nothing: its place is 0.
abbrev pub bare_answer_of : Result (Unit {0}) Refused → Answer
bare_answer_of (Ok done) = record { status = 0; place = 0 }
bare_answer_of (Err refused) = record { status = number_of refused.refusal; place = refused.place }
