-- A text's script is played while it is read.
use Rattle.std.proofs.Common.{◌≡◌, ◌∙◌, ℕ, List, [], ◌∷◌, ◌++◌, length, reverse, refl, false, Option, Some, None, sym, ap, subst}
use Rattle.std.specs.List.{AllByRecursion}
use Rattle.std.proofs.lemmas.List.{reverse-reverse}
use Rattle.gr_history.specs.declared.record.Record.{Record}
use Rattle.gr_script.specs.declared.line.Line.{Line}
use Rattle.gr_script.specs.Expanded.{expanded, expansion}
use Rattle.gr_script.specs.Rules.{Heading, IsScript}
use Rattle.gr_script.specs.Steps.{departed, departs}
use Rattle.gr_script.specs.Taken.{Taken, heading_taken, lines_taken, IsFed}
use Rattle.gr_script.proofs.WhileRead.{IsReading, begins as begins_reading, goes_on as reads_on, script_so_far}
use Rattle.gr_world.specs.Courses.{after, course}
use Rattle.gr_world.specs.Events.{Event}
use Rattle.gr_world.specs.Played.{IsPlayed}
use Rattle.gr_world.specs.Records.{IsLeft, IsReplayed}
use Rattle.gr_world.specs.Histories.{KeepsLaws}
use Rattle.gr_world.specs.Served.{FollowsLines, HasServed, histories_in}
use Rattle.gr_world.specs.Shut.{AreShut}
use Rattle.gr_world.specs.Worlds.{IsWorld, Plays}
use Rattle.gr_durable.specs.declared.expander.Expander.{Expander}
use Rattle.gr_durable.specs.Expanding.{Fits, IsExpander}
use Rattle.gr_depart.specs.Lines.{CanDo, after_all, gone_after}
use Rattle.gr_depart.specs.declared.departing.Departing.{Departing}
use Rattle.gr_depart.proofs.Turns.{course_on, gone_on, next_fits, turn_doable}

-- All lines were played but the one that is next.
pub record IsPlaying (text : List ℕ) (heading : Heading) (t : Taken) (next : Option Line) (world : Departing)
    (expander : Expander) : Type 0 where
  pub played : List Line
  pub reading : IsReading text heading t next played
  pub stands : IsWorld heading (course heading (expanded played)) world.world
  pub gone : world.gone.items ≡ departed (expanded played)
  pub keeps : IsExpander (length heading.clients) expander played

pub begins : (text : List ℕ) (old new : Taken) (heading : Heading) (next : Option Line) (world : Departing) (expander : Expander)
    → IsFed old new next
    → old.runs ≡ false → old.text ≡ text → lines_taken old ≡ [] → heading ≡ heading_taken new → IsWorld heading [] world.world
    → world.gone.items ≡ [] → IsExpander (length heading.clients) expander []
    → IsPlaying text heading new next world expander
begins text old new heading next world expander fed runs is none heading_is stands gone keeps = record {
  played = [];
  reading = begins_reading text old new heading next fed runs is none heading_is;
  stands = stands;
  gone = gone;
  keeps = keeps;
}

pub takable : (text : List ℕ) (heading : Heading) (t : Taken) (line : Line) (world : Departing) (expander : Expander)
    → (is : IsPlaying text heading t (Some line) world expander) → Fits (length heading.clients) is.played line
takable text heading t line world expander is =
    next_fits heading is.played line (script_so_far text heading t line is.played is.reading)

pub playable : (text : List ℕ) (heading : Heading) (t : Taken) (line : Line) (world : Departing) (expander : Expander) (lines : List Line)
    → (is : IsPlaying text heading t (Some line) world expander) → expanded (line ∷ is.played) ≡ reverse lines ++ expanded is.played
    → AllByRecursion (CanDo heading) lines
playable text heading t line world expander lines is turned =
    turn_doable heading is.played lines line (script_so_far text heading t line is.played is.reading) turned

pub goes_on : (text : List ℕ) (heading : Heading) (old new : Taken) (line : Line) (lines : List Line) (next : Option Line)
    → (before world : Departing) (kept expander : Expander) (is : IsPlaying text heading old (Some line) before kept)
    → expanded (line ∷ is.played) ≡ reverse lines ++ expanded is.played
    → IsExpander (length heading.clients) expander (line ∷ is.played)
    → Plays heading (after_all heading before.gone.items lines) before.world world.world
    → world.gone.items ≡ gone_after lines before.gone.items → IsFed old new next
    → IsPlaying text heading new next world expander
goes_on text heading old new line lines next before world kept expander is turned keeps plays gone fed =
    let course_is = ap (course heading) turned ∙ course_on heading lines (expanded is.played) in
    let gone_is = ap (λ (all : List Line). departed all) turned ∙ gone_on lines (expanded is.played) in
    record {
      played = line ∷ is.played;
      reading = reads_on text heading old new line next is.played is.reading fed;
      stands = subst (λ (events : List Event). IsWorld heading events world.world) (sym course_is)
          (subst (λ all. IsWorld heading (after_all heading all lines (course heading (expanded is.played))) world.world) is.gone
          (plays (course heading (expanded is.played)) is.stands));
      gone = gone ∙ ap (gone_after lines) is.gone ∙ sym gone_is;
      keeps = keeps;
    }

-- what the laws say of a record that a script's course leaves
pub record AreLaws : Type 0 where
  pub abiding : (heading : Heading) (lines : List Line) → IsScript heading lines → (left : Record) → IsReplayed heading lines left
      → KeepsLaws heading (departed (reverse lines)) left
  pub served : (heading : Heading) (lines : List Line) → IsScript heading lines → (left : Record) → IsReplayed heading lines left
      → HasServed heading lines left
  pub in_order : (heading : Heading) (lines : List Line) → IsScript heading lines → (left : Record) → IsReplayed heading lines left
      → FollowsLines heading lines (histories_in left)
  pub shut : (heading : Heading) (lines : List Line) → IsScript heading lines → AreShut heading (reverse lines)

pub ends : AreLaws → ((heading : Heading) (lines : List Line) → IsScript heading lines → IsScript heading (expansion lines))
    → (text : List ℕ) (heading : Heading) (t : Taken) (world : Departing) (expander : Expander) (left : Record)
    → IsPlaying text heading t None world expander
    → ((events : List Event) → IsWorld heading events world.world → IsLeft heading events left) → IsPlayed text left
ends laws still text heading t world expander left is leaves =
    let written = reverse (lines_taken t) in
    let lines = expansion written in
    let ruled = still heading written is.reading.ruled in
    let played = reverse-reverse (expanded (reverse written))
    ∙ ap (λ (all : List Line). expanded all) (reverse-reverse (lines_taken t) ∙ is.reading.lines) in
    let replayed = leaves (course heading (reverse lines))
    (subst (λ (all : List Line). IsWorld heading (course heading all) world.world) (sym played) is.stands) in
    record {
      heading = heading;
      written = written;
      lines = lines;
      read = is.reading.whole;
      expanded_is = refl;
      ruled = ruled;
      replayed = replayed;
      laws = laws.abiding heading lines ruled left replayed;
      served = laws.served heading lines ruled left replayed;
      in_order = laws.in_order heading lines ruled left replayed;
      shut = laws.shut heading lines ruled;
    }
