-- How a call ends where the words are understood.
use Rattle.std.proofs.Common.{◌≡◌, ℕ, List, [], ◌++◌, append_assoc, arith, codes, decimal, inl, inr, refl, subst, sym, ap, Option, Some, None, Result, Ok, Err}
use Rattle.gr_script.specs.declared.ending.ScriptFault.{ScriptFault}
use Rattle.gr_script.specs.Reasons.{name_of, number_of}
use Rattle.gr_top.specs.CauseTexts.{text_of_cause}
use Rattle.gr_top.specs.declared.cause.Cause.{Cause}
use Rattle.gr_top.specs.declared.cause.Cause.TheVariants.{Finished, Usage, ReadFault, TooLarge, Script, WriteFault, Memory, NoMember, OtherRegion}
use Rattle.gr_history.specs.declared.record.Record.{Record}
use Rattle.gr_top.specs.declared.words.Mode.{Mode}
use Rattle.gr_top.specs.declared.words.Mode.TheVariants.{Check, Replay, At}
use Rattle.gr_top.specs.declared.words.Request.{Request}
use Rattle.gr_top.specs.declared.words.Request.TheVariants.{Alone, Run, Drill}
use Rattle.gr_top.specs.Outcomes.{Answers, Reads, Keeps, Prints, IsWritten, Explains, IsWhole, IsWithinMost, most_bytes}
use Rattle.gr_top.specs.Words.{Understands, asked_alone}
use Rattle.gr_io.specs.Ends.{TakesAtMost}
use Rattle.gr_io.specs.Streams.{Stream, IsUntouched}

-- seven texts, joined from either end
in_turn : (a b c d e f g : List ℕ) → a ++ b ++ c ++ d ++ e ++ f ++ g ≡ a ++ (b ++ (c ++ (d ++ (e ++ (f ++ g)))))
in_turn a b c d e f g = simp append_assoc refl

-- the line of a fault of a script, in its pieces
pub script_line : (cause : Cause) (fault : ScriptFault) (line number name : List ℕ) → cause ≡ Script fault → line ≡ decimal fault.line
    → number ≡ decimal (number_of fault.reason) → name ≡ name_of fault.reason
    → text_of_cause cause ≡ codes "georep: line " ++ (line ++ (codes ": " ++ (number ++ (codes " " ++ (name ++ codes "\n")))))
script_line cause fault line number name is at of called =
    rw (is, at, of, called)
    (in_turn (codes "georep: line ") (decimal fault.line) (codes ": ") (decimal (number_of fault.reason)) (codes " ")
    (name_of fault.reason) (codes "\n"))

-- Where no record is kept, that is right wherever a script is read.
pub keeps_none : (request : Request) (source : Stream) → Reads request → Keeps request source None
keeps_none (Alone Check) source reads = refl
keeps_none (Alone (Replay detail)) source reads = tt
keeps_none (Alone (At member wanted)) source reads = tt
keeps_none (Run detail) source reads = tt
keeps_none (Drill start steps) source reads = absurd reads

-- A text that was written, or a part of it, explains how writing ended.
pub written_explains : (request : Request) (source sink : Stream) (kept : Option Record) (text : List ℕ) (cause : Cause)
    → Prints request source kept text → IsWritten sink text cause → Explains request source sink kept cause
written_explains request source sink kept text Finished prints written = (text, prints, written)
written_explains request source sink kept text WriteFault prints written = (text, prints, written.0, written.1)
written_explains request source sink kept text (Usage place) prints written = absurd written
written_explains request source sink kept text ReadFault prints written = absurd written
written_explains request source sink kept text (TooLarge bytes lines) prints written = absurd written
written_explains request source sink kept text (Script fault) prints written = absurd written
written_explains request source sink kept text Memory prints written = absurd written
written_explains request source sink kept text (NoMember member) prints written = absurd written
written_explains request source sink kept text OtherRegion prints written = absurd written

takes_none : (bytes : Option (List ℕ)) → TakesAtMost most_bytes bytes bytes
takes_none None = ([], tt, omega arith)
takes_none (Some bytes) = ([], refl, omega arith)

-- Of a source that wasn't read no more was taken than a script may have.
pub within_untouched : (source : Stream) → IsUntouched source → IsWithinMost source
within_untouched source untouched =
    subst (λ (after : Option (List ℕ)). TakesAtMost most_bytes source.bytes_before after) (sym untouched.bytes)
    (takes_none source.bytes_before)

pub within : (source : Stream) (text : List ℕ) → IsWhole source text → IsWithinMost source
within source text whole = (text, whole.taken, whole.fits)

keeps_untouched : (request : Request) (source : Stream) → IsUntouched source → Keeps request source None
keeps_untouched (Alone Check) source untouched = refl
keeps_untouched (Alone (Replay detail)) source untouched = tt
keeps_untouched (Alone (At member wanted)) source untouched = tt
keeps_untouched (Run detail) source untouched = tt
keeps_untouched (Drill start steps) source untouched = (untouched, tt)

two_answers : {X : Type 0} (x : X) (place : ℕ) → Ok x ≡ Err place → ⊥
two_answers x place e = cc

one_place : {X : Type 0} (asked : Result X ℕ) (at place : ℕ) → asked ≡ Err at → asked ≡ Err place → at ≡ place
one_place asked at place e f = cc

-- Where nothing was touched, what is told of words that weren't understood answers them.
pub refused : (asked : Result Request ℕ) (source sink : Stream) (cause : Cause) → Understands asked (Err cause) → IsUntouched source
    → IsUntouched sink → Answers asked source sink None cause
refused (Ok request) source sink (Usage place) is read written = absurd (two_answers request place is)
refused (Err at) source sink (Usage place) is read written = (inl (ap Usage (sym (one_place (Err at) at place refl is))), refl, read, written)
refused (Ok request) source sink Memory is read written = (keeps_untouched request source read, within_untouched source read, written)
refused (Err at) source sink Memory is read written = (inr (refl, is), refl, read, written)
refused asked source sink Finished is read written = absurd is
refused asked source sink ReadFault is read written = absurd is
refused asked source sink (TooLarge bytes lines) is read written = absurd is
refused asked source sink (Script fault) is read written = absurd is
refused asked source sink WriteFault is read written = absurd is
refused asked source sink (NoMember member) is read written = absurd is
refused asked source sink OtherRegion is read written = absurd is

-- The same of a mode without threads.
pub refused_alone : (asked : Result Mode ℕ) (cause : Cause) → Understands asked (Err cause) → Understands (asked_alone asked) (Err cause)
refused_alone (Ok mode) (Usage place) is = absurd (two_answers mode place is)
refused_alone (Err at) (Usage place) is = ap Err (one_place (Err at) at place refl is)
refused_alone (Ok mode) Memory is = tt
refused_alone (Err at) Memory is = is
refused_alone asked Finished is = absurd is
refused_alone asked ReadFault is = absurd is
refused_alone asked (TooLarge bytes lines) is = absurd is
refused_alone asked (Script fault) is = absurd is
refused_alone asked WriteFault is = absurd is
refused_alone asked (NoMember member) is = absurd is
refused_alone asked OtherRegion is = absurd is
