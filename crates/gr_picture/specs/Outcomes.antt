-- What each cause says of the source and the sink, and what a run of the program of pictures leaves.
use Rattle.std.specs.Prelude.{◌≡◌, ℕ, ◌+◌, List, length}
use Rattle.std.specs.Io.KnownBytes.{Appends, Consumes}
use Rattle.gr_io.specs.Ends.{AppendsPart}
use Rattle.gr_io.specs.Streams.{Stream, IsUntouched, Counted, IsAllOf, TookAtMost, IsPut}
use Rattle.gr_picture.specs.CauseTexts.{text_of_cause}
use Rattle.gr_picture.specs.Elements.{IsPicture}
use Rattle.gr_picture.specs.Statuses.{status_of}
use Rattle.gr_picture.specs.declared.cause.Cause.{Cause}
use Rattle.gr_picture.specs.declared.cause.Cause.TheVariants.{Finished, ReadFault, TooLarge, Line, WriteFault, Memory}

-- The most bytes of a report.
abbrev pub most_bytes : ℕ
most_bytes = 67108864

-- The report is all that the source had, and no longer than a report may be.
abbrev pub IsWhole : Stream → List ℕ → Type 0
IsWhole source report = IsAllOf most_bytes source report

-- No more was taken of the source than a report may have.
abbrev pub IsWithin : Stream → Type 0
IsWithin source = TookAtMost most_bytes source

-- The source had more bytes than a report may have, and one more than these was taken.
pub record HasTooMany (source : Stream) : Type 0 where
  pub taken : List ℕ
  pub consumed : Consumes source.bytes_before source.bytes_after taken
  pub one_more : length taken ≡ most_bytes + 1

-- The text is a picture, and what it was drawn of is all that the source had.
pub record IsDrawn (source : Stream) (text : List ℕ) : Type 0 where
  pub report : List ℕ
  pub whole : IsWhole source report
  pub picture : IsPicture text

-- All that the source had was taken, and no more than a report may have.
abbrev pub HasAll : Stream → Type 0
HasAll source = (report : List ℕ) × IsWhole source report

-- what each cause says of the source and the sink
abbrev pub Explains : Stream → Stream → Cause → Type 0
Explains source sink Finished = (text : List ℕ) × IsDrawn source text × Appends sink.bytes_before sink.bytes_after text
Explains source sink ReadFault = Counted source × IsWithin source × IsUntouched sink
Explains source sink TooLarge = HasTooMany source × IsUntouched sink
Explains source sink (Line line) = HasAll source × IsUntouched sink
Explains source sink WriteFault =
    (text : List ℕ) × IsDrawn source text × AppendsPart sink.bytes_before sink.bytes_after text × Counted sink
Explains source sink Memory = IsWithin source × IsUntouched sink

-- The cause explains it whatever sink stood by untouched.
abbrev pub Stops : Stream → Cause → Type 0
Stops source cause = (sink : Stream) → IsUntouched sink → Explains source sink cause

-- The cause's line was written, or a part of it where the sink's count rose.
abbrev pub IsTold : Stream → Cause → Type 0
IsTold errors cause = IsPut errors (text_of_cause cause)

-- How a run of the program ended: for one cause, which its status, its line and all that it read and wrote agree with.
pub record IsRun (source sink errors : Stream) (status : ℕ) : Type 0 where
  pub cause : Cause
  pub status_is : status ≡ status_of cause
  pub explained : Explains source sink cause
  pub told : IsTold errors cause
