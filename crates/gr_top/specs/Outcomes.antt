-- What each cause says of the words, the source, the sink and the record.
use Rattle.std.specs.Prelude.{◌≡◌, ◌⊎◌, ℕ, ◌+◌, ◌≤◌, List, length, Option, Some}
use Rattle.std.specs.Prelude.{None, Result, Ok, Err, Bool, true, false, IfSome, IsSomeAnd}
use Rattle.std.specs.Io.KnownBytes.{Appends, Consumes}
use Rattle.gr_ask.specs.Wants.{IsWantedText}
use Rattle.gr_ask.specs.declared.wanted.Wanted.{Wanted}
use Rattle.gr_history.specs.declared.record.Record.{Record}
use Rattle.gr_io.specs.Ends.{AppendsPart}
use Rattle.gr_io.specs.Streams.{Stream, IsUntouched, Counted, IsAllOf, TookAtMost, IsPut}
use Rattle.gr_report.specs.Same.{are_equal}
use Rattle.gr_report.specs.Summary.{summary_of}
use Rattle.gr_run_law.specs.Records.{IsRecordOfRun}
use Rattle.gr_script.specs.declared.ending.ScriptEnd.TheVariants as end
use Rattle.gr_script.specs.declared.ending.ScriptFault.{ScriptFault}
use Rattle.gr_script.specs.declared.script.Script.{Script as TheScript}
use Rattle.gr_script.specs.Cuts.{line_count}
use Rattle.gr_script.specs.Drill.{IsDrill}
use Rattle.gr_script.specs.Expanded.{expansion}
use Rattle.gr_script.specs.Reprinted.{IsPrintOf}
use Rattle.gr_script.specs.Said.{script_of}
use Rattle.gr_script.specs.Scripts.{heading_of}
use Rattle.gr_world.specs.Played.{IsPlayed}
use Rattle.gr_top.specs.declared.cause.Cause.{Cause}
use Rattle.gr_top.specs.declared.cause.Cause.TheVariants.{Finished, Usage, ReadFault, TooLarge}
use Rattle.gr_top.specs.declared.cause.Cause.TheVariants.{Script, WriteFault, Memory, NoMember, OtherRegion}
use Rattle.gr_top.specs.Causes.{status_of}
use Rattle.gr_top.specs.CauseTexts.{text_of_cause}
use Rattle.gr_top.specs.declared.words.Detail.{Detail}
use Rattle.gr_top.specs.declared.words.Mode.TheVariants.{Check, Replay, At}
use Rattle.gr_top.specs.declared.words.Request.{Request}
use Rattle.gr_top.specs.declared.words.Request.TheVariants.{Alone, Run, Drill}
use Rattle.gr_top.specs.ReportTexts.{report_text}
use Rattle.gr_top.specs.Wants.{HasWanted, LacksWanted}
use Rattle.gr_top.specs.Words.{request_of}
use Rattle.gr_top.specs.Arguments.{AreWords}

-- The most bytes of a script.
abbrev pub most_bytes : ℕ
most_bytes = 8388608

-- The text is all that the source had, and no longer than a script may be.
abbrev pub IsWhole : Stream → List ℕ → Type 0
IsWhole source text = IsAllOf most_bytes source text

-- A script is read, but for a drill, whose script is drawn.
abbrev pub Reads : Request → Type 0
Reads (Alone mode) = Unit {0}
Reads (Run detail) = Unit {0}
Reads (Drill start steps) = ⊥

-- whether the script is to be run by threads, so that no line says what comes of itself
abbrev pub runs : Request → Bool
runs (Alone mode) = false
runs (Run detail) = true
runs (Drill start steps) = true

-- The text is all that the source had, and this script, in the form of runs or not.
pub record IsGiven (runs : Bool) (source : Stream) (text : List ℕ) (script : TheScript) : Type 0 where
  pub whole : IsWhole source text
  pub read : script_of runs text ≡ Ok (heading_of script, script.lines)

-- The record is that of the script which the source had, expanded. Its histories keep the laws of records, and its clients
-- were served step by step.
pub record IsReplayOf (source : Stream) (record_of : Record) : Type 0 where
  pub text : List ℕ
  pub whole : IsWhole source text
  pub played : IsPlayed text record_of

-- So it is, and that script has the member of which something is wanted, and a query's region.
pub record IsReplayFor (member : ℕ) (wanted : Wanted) (source : Stream) (record_of : Record) : Type 0 where
  pub replay : IsReplayOf source record_of
  pub has : HasWanted member wanted replay.played.heading

-- The source had a script, which lacks what is wanted of a member: why is the cause.
pub record IsScriptWithout (member : ℕ) (wanted : Wanted) (source : Stream) (why : Cause) : Type 0 where
  pub text : List ℕ
  pub script : TheScript
  pub given : IsGiven false source text script
  pub lacks : LacksWanted member wanted (heading_of script) why

-- so it is where something is wanted of a member
abbrev pub IsWithout : Request → Stream → Cause → Type 0
IsWithout (Alone Check) source why = ⊥
IsWithout (Alone (Replay detail)) source why = ⊥
IsWithout (Alone (At member wanted)) source why = IsScriptWithout member wanted source why
IsWithout (Run detail) source why = ⊥
IsWithout (Drill start steps) source why = ⊥

-- The record is what threads left of the script which the source had, expanded, in whatever order they and their mail
-- went.
pub record IsRunOf (source : Stream) (record_of : Record) : Type 0 where
  pub text : List ℕ
  pub script : TheScript
  pub given : IsGiven true source text script
  pub left : IsRecordOfRun (heading_of script) (expansion script.lines) record_of

-- The record is what threads left of the script of so many steps that is drawn from the number. All members have the
-- same rows.
pub record IsDrillOf (start steps : ℕ) (script : TheScript) (record_of : Record) : Type 0 where
  pub drawn : IsDrill start steps (heading_of script, script.lines)
  pub left : IsRecordOfRun (heading_of script) script.lines record_of
  pub equal : are_equal record_of.members ≡ true

-- What the source had is no script, and this is its first fault.
pub record IsRefused (runs : Bool) (source : Stream) (fault : ScriptFault) : Type 0 where
  pub text : List ℕ
  pub whole : IsWhole source text
  pub refused : script_of runs text ≡ Err (end.Fault fault)

-- The source had more bytes than a script may have, and one more than these was taken.
pub record HasTooManyBytes (source : Stream) (bytes lines : ℕ) : Type 0 where
  pub taken : List ℕ
  pub consumed : Consumes source.bytes_before source.bytes_after taken
  pub count : length taken ≡ bytes
  pub one_more : bytes ≡ most_bytes + 1
  pub lines_are : lines ≡ line_count taken

-- What the source had has more lines than a script may have.
pub record HasTooManyLines (runs : Bool) (source : Stream) (bytes lines : ℕ) : Type 0 where
  pub text : List ℕ
  pub whole : IsWhole source text
  pub count : length text ≡ bytes
  pub many : script_of runs text ≡ Err (end.TooManyLines lines)

-- No more was taken of the source than a script may have.
abbrev pub IsWithinMost : Stream → Type 0
IsWithinMost source = TookAtMost most_bytes source

-- the record that is kept, if one is: none by a check. A drill reads nothing.
abbrev pub Keeps : Request → Stream → Option Record → Type 0
Keeps (Alone Check) source kept = kept ≡ None
Keeps (Alone (Replay detail)) source kept = IfSome kept (IsReplayOf source)
Keeps (Alone (At member wanted)) source kept = IfSome kept (IsReplayFor member wanted source)
Keeps (Run detail) source kept = IfSome kept (IsRunOf source)
Keeps (Drill start steps) source kept =
    IsUntouched source × IfSome kept (λ record_of. (script : TheScript) × IsDrillOf start steps script record_of)

-- The text that the source had says a script, of which this is printed.
pub record IsPrinted (source : Stream) (printed : List ℕ) : Type 0 where
  pub text : List ℕ
  pub whole : IsWhole source text
  pub print : IsPrintOf text printed

-- What is printed: the script, the text of the record, what is wanted of a member, or the summary.
abbrev pub Prints : Request → Stream → Option Record → List ℕ → Type 0
Prints (Alone Check) source kept text = (kept ≡ None) × IsPrinted source text
Prints (Alone (Replay detail)) source kept text =
    IsSomeAnd kept (λ record_of. IsReplayOf source record_of × (text ≡ report_text detail record_of))
Prints (Alone (At member wanted)) source kept text =
    IsSomeAnd kept (λ record_of. IsReplayFor member wanted source record_of × IsWantedText member wanted record_of text)
Prints (Run detail) source kept text =
    IsSomeAnd kept (λ record_of. IsRunOf source record_of × (text ≡ report_text detail record_of))
Prints (Drill start steps) source kept text =
    IsUntouched source × IsSomeAnd kept (λ record_of.
    (script : TheScript) × IsDrillOf start steps script record_of × (text ≡ summary_of start steps script record_of))

-- The record may be kept, and its text printed.
pub record Leaves (request : Request) (source : Stream) (detail : Detail) (record_of : Record) : Type 0 where
  pub within : IsWithinMost source
  pub keeps : Keeps request source (Some record_of)
  pub prints : Prints request source (Some record_of) (report_text detail record_of)

-- what each cause says of the source, the sink and the record that was kept
abbrev pub Explains : Request → Stream → Stream → Option Record → Cause → Type 0
Explains request source sink kept Finished =
    (text : List ℕ) × Prints request source kept text × Appends sink.bytes_before sink.bytes_after text
Explains request source sink kept (Usage place) = ⊥
Explains request source sink kept ReadFault = Reads request × (kept ≡ None) × Counted source × IsWithinMost source × IsUntouched sink
Explains request source sink kept (TooLarge bytes lines) =
    Reads request × (kept ≡ None) × (HasTooManyBytes source bytes lines ⊎ HasTooManyLines (runs request) source bytes lines)
    × IsUntouched sink
Explains request source sink kept (Script fault) =
    Reads request × (kept ≡ None) × IsRefused (runs request) source fault × IsUntouched sink
Explains request source sink kept WriteFault =
    (text : List ℕ) × Prints request source kept text × AppendsPart sink.bytes_before sink.bytes_after text × Counted sink
Explains request source sink kept Memory = Keeps request source kept × IsWithinMost source × IsUntouched sink
Explains request source sink kept (NoMember member) = (kept ≡ None) × IsWithout request source (NoMember member) × IsUntouched sink
Explains request source sink kept OtherRegion = (kept ≡ None) × IsWithout request source OtherRegion × IsUntouched sink

-- The place of a word that isn't understood is told, or that memory was refused for a query, the third word.
abbrev pub IsMisunderstood : ℕ → Cause → Type 0
IsMisunderstood place cause = (cause ≡ Usage place) ⊎ ((cause ≡ Memory) × (2 ≤ place))

-- The same by the words. Where they aren't understood nothing happens.
abbrev pub Answers : Result Request ℕ → Stream → Stream → Option Record → Cause → Type 0
Answers (Ok request) source sink kept cause = Explains request source sink kept cause
Answers (Err place) source sink kept cause =
    IsMisunderstood place cause × (kept ≡ None) × IsUntouched source × IsUntouched sink

-- The cause explains it whatever sink stood by untouched, with no record kept.
abbrev pub Stops : Request → Stream → Cause → Type 0
Stops request source cause = (sink : Stream) → IsUntouched sink → Explains request source sink None cause

-- A text was written to the sink, or a part of it where the sink's count rose.
abbrev pub IsWritten : Stream → List ℕ → Cause → Type 0
IsWritten sink text Finished = Appends sink.bytes_before sink.bytes_after text
IsWritten sink text WriteFault = AppendsPart sink.bytes_before sink.bytes_after text × Counted sink
IsWritten sink text _ = ⊥

-- The cause's line was written, or a part of it where the sink's count rose.
abbrev pub IsTold : Stream → Cause → Type 0
IsTold errors cause = IsPut errors (text_of_cause cause)

-- How the program answered its words: for one cause, which its status, its line and all that it read, wrote and kept agree with.
pub record IsAnswered (words : List (List ℕ)) (source sink errors : Stream) (status : ℕ) : Type 0 where
  pub cause : Cause
  pub kept : Option Record
  pub status_is : status ≡ status_of cause
  pub explained : Answers (request_of words) source sink kept cause
  pub told : IsTold errors cause

-- Memory for the words was refused: nothing was read or written, and this cause was told.
pub record LacksWords (source sink errors : Stream) (status : ℕ) : Type 0 where
  pub status_is : status ≡ status_of Memory
  pub source_is : IsUntouched source
  pub sink_is : IsUntouched sink
  pub told : IsTold errors Memory

-- The program answered just the words of the arguments, where these are told.
pub record IsAnsweredFor (arguments : Option (List (List ℕ))) (source sink errors : Stream) (status : ℕ) : Type 0 where
  pub words : List (List ℕ)
  pub words_are : IfSome arguments (λ all. AreWords all words)
  pub answered : IsAnswered words source sink errors status

-- How a run of the program ends: it answered its arguments, or memory for their words was refused.
abbrev pub EndsSo : Option (List (List ℕ)) → Stream → Stream → Stream → ℕ → Type 0
EndsSo arguments source sink errors status = IsAnsweredFor arguments source sink errors status ⊎ LacksWords source sink errors status
