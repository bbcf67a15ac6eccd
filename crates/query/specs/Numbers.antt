-- The code's answers as the numbers of document 01.
use Rattle.std.specs.Prelude.{ℕ, Result, Ok, Err}
use Rattle.query.specs.Query.{Numbers, reply_of}
use Rattle.query.specs.declared.reply.Refusal.TheVariants.{Sheet, NoLiteral, ShortWitness}
use Rattle.query.specs.declared.reply.Refusal.{Refusal}
use Rattle.query.specs.declared.reply.Reply.{Reply}
use Rattle.query.specs.declared.reply.Verdict.TheVariants.{Yes, No, OutOfSteps, OutOfPlaces}
use Rattle.query.specs.declared.reply.Verdict.{Verdict}
use Rattle.sheet.specs.Enums.{number_of}

-- the sheet's own number; 16, "question byte is no literal"; 17, "witness buffer under n bytes"
abbrev pub refusal_number : Refusal → ℕ
refusal_number (Sheet refusal) = number_of refusal
refusal_number NoLiteral = 16
refusal_number ShortWitness = 17

-- 1, "yes"; 2, "no"; 18, "another visit is due and steps equal the allowance"; 19, "a test finds a part and no store place is free"
abbrev pub verdict_number : Verdict → ℕ
verdict_number Yes = 1
verdict_number No = 2
verdict_number OutOfSteps = 18
verdict_number OutOfPlaces = 19

-- "It returns a code and three counts": those "of the walk", or with a refusal before it "0, 0, 0"
abbrev pub numbers_of : Result Reply Refusal → Numbers
numbers_of (Ok r) = reply_of (verdict_number r.verdict) r.steps r.tests r.stored
numbers_of (Err refusal) = reply_of (refusal_number refusal) 0 0 0
