-- What is wanted of a member of the script that the source had.
use Rattle.std.proofs.Common.{◌≡◌, ◌∙◌, ℕ, ◌≤◌, List, refl, sym, ap, subst, false, Result, Ok, Err, IfOk, MatchResult}
use Rattle.gr_ask.specs.declared.wanted.Wanted.{Wanted}
use Rattle.gr_history.specs.declared.record.Record.{Record}
use Rattle.gr_script.specs.declared.line.Line.{Line}
use Rattle.gr_script.specs.declared.script.Script.{Script as TheScript}
use Rattle.gr_script.specs.Expanded.{expansion}
use Rattle.gr_script.specs.Rules.{Heading}
use Rattle.gr_script.specs.Said.{script_of}
use Rattle.gr_script.specs.Scripts.{heading_of}
use Rattle.gr_script.specs.Steps.{departed}
use Rattle.std.specs.Prelude.{reverse}
use Rattle.gr_world.specs.Histories.{KeepsLaws}
use Rattle.gr_world.specs.Played.{IsPlayed}
use Rattle.gr_world.specs.Records.{IsReplayed}
use Rattle.gr_world.specs.Served.{HasServed, FollowsLines, histories_in}
use Rattle.gr_world.specs.Shut.{AreShut}
use Rattle.gr_io.specs.Streams.{Stream}
use Rattle.gr_top.specs.declared.cause.Cause.{Cause}
use Rattle.gr_top.specs.declared.cause.Cause.TheVariants.{Finished, Usage, ReadFault, TooLarge, Script, WriteFault, Memory, NoMember, OtherRegion}
use Rattle.gr_top.specs.declared.words.Mode.TheVariants.{At}
use Rattle.gr_top.specs.declared.words.Request.TheVariants.{Alone}
use Rattle.gr_top.specs.Outcomes.{IsGiven, IsReplayFor, Stops}
use Rattle.gr_top.specs.Wants.{HasWanted, IsElsewhere, IsOwn, LacksWanted}

-- Where the member is there, the region decides.
pub found : {X : Type 0} (member : ℕ) (wanted : Wanted) (heading : Heading) (r : Result X Cause) → member ≤ heading.members
    → MatchResult r (λ _. IsOwn wanted heading) (λ why. (why ≡ OtherRegion) × IsElsewhere wanted heading)
    → MatchResult r (λ _. HasWanted member wanted heading) (LacksWanted member wanted heading)
found member wanted heading (Ok x) there own = (there, own)
found member wanted heading (Err why) there other = subst (LacksWanted member wanted heading) (sym other.0) (there, other.1)

-- What is replayed of a script is replayed of its text.
pub played : {E : Type 0} (text : List ℕ) (script expanded : TheScript) (r : Result Record E)
    → script_of false text ≡ Ok (heading_of script, script.lines) → heading_of expanded ≡ heading_of script
    → expanded.lines ≡ expansion script.lines → IfOk r (IsReplayed (heading_of expanded) expanded.lines)
    → IfOk r (KeepsLaws (heading_of expanded) (departed (reverse expanded.lines))) → IfOk r (HasServed (heading_of expanded) expanded.lines)
    → IfOk r (λ left. FollowsLines (heading_of expanded) expanded.lines (histories_in left))
    → IfOk r (λ _. AreShut (heading_of expanded) (reverse expanded.lines)) → IfOk r (IsPlayed text)
played text script expanded (Err e) read heading lines replayed laws served in_order shut = tt
played text script expanded (Ok left) read heading lines replayed laws served in_order shut = record {
  heading = heading_of expanded;
  written = script.lines;
  lines = expanded.lines;
  read = read ∙ ap (λ (h : Heading). Ok (h, script.lines)) (sym heading);
  expanded_is = lines;
  ruled = expanded.ruled;
  replayed = replayed;
  laws = laws;
  served = served;
  in_order = in_order;
  shut = shut;
}

abbrev heading_in : {E : Type 0} → Heading → Result (Heading × List Line) E → Heading
heading_in other (Ok script) = script.0
heading_in other (Err why) = other

one_heading : {E : Type 0} (read : Result (Heading × List Line) E) (a b : Heading) (these those : List Line) → read ≡ Ok (a, these)
    → read ≡ Ok (b, those) → a ≡ b
one_heading read a b these those e f = ap (heading_in a) (sym e ∙ f)

pub replay_for : (member : ℕ) (wanted : Wanted) (source : Stream) (text : List ℕ) (script : TheScript) (record_of : Record)
    → IsGiven false source text script → IsPlayed text record_of → HasWanted member wanted (heading_of script)
    → IsReplayFor member wanted source record_of
replay_for member wanted source text script record_of given is has =
    let same = one_heading (script_of false text) (heading_of script) is.heading script.lines is.written given.read is.read in
    record {
      replay = record { text = text; whole = given.whole; played = is };
      has = subst (HasWanted member wanted) same has;
    }

-- Where the script lacks it, that is the cause.
pub lacks_stops : (member : ℕ) (wanted : Wanted) (source : Stream) (text : List ℕ) (script : TheScript) (why : Cause)
    → IsGiven false source text script → LacksWanted member wanted (heading_of script) why → Stops (Alone (At member wanted)) source why
lacks_stops member wanted source text script (NoMember named) given lacks sink untouched =
    (refl, record { text = text; script = script; given = given; lacks = lacks }, untouched)
lacks_stops member wanted source text script OtherRegion given lacks sink untouched =
    (refl, record { text = text; script = script; given = given; lacks = lacks }, untouched)
lacks_stops member wanted source text script Finished given lacks sink untouched = absurd lacks
lacks_stops member wanted source text script (Usage place) given lacks sink untouched = absurd lacks
lacks_stops member wanted source text script ReadFault given lacks sink untouched = absurd lacks
lacks_stops member wanted source text script (TooLarge bytes lines) given lacks sink untouched = absurd lacks
lacks_stops member wanted source text script (Script fault) given lacks sink untouched = absurd lacks
lacks_stops member wanted source text script WriteFault given lacks sink untouched = absurd lacks
lacks_stops member wanted source text script Memory given lacks sink untouched = absurd lacks
