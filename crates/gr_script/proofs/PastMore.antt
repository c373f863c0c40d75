-- What is kept of the earlier lines, with one more behind the heading.
use Rattle.std.proofs.Common.{◌≡◌, ◌∙◌, ℕ, ◌≤◌, ◌<◌, List, [], ◌∷◌, ◌++◌, true, false, length, sym, arith}
use Rattle.std.proofs.Common.{Option, zero, suc, replicate, refl}
use Rattle.std.proofs.lemmas.Bool.{cond-false}
use Rattle.gr_script.specs.declared.attendance.Presence.{Presence}
use Rattle.gr_script.specs.declared.forms.LineKind.{LineKind}
use Rattle.gr_script.specs.declared.forms.LineKind.TheVariants as kind
use Rattle.gr_script.specs.declared.items.Setting.{Setting}
use Rattle.gr_script.specs.declared.past.Counted.{Counted}
use Rattle.gr_script.specs.declared.past.Sizes.{Sizes}
use Rattle.gr_script.specs.declared.saying.Saying.{Saying}
use Rattle.gr_script.specs.declared.tally.Tallies.{Tallies}
use Rattle.gr_script.specs.Absence.{IsAttendance, returned}
use Rattle.gr_script.specs.Forms.{rank, is_kind}
use Rattle.gr_script.specs.LinesSaid.{lines_said}
use Rattle.gr_script.specs.Index.{IsIndex, counted}
use Rattle.gr_script.specs.Past.{number, key_in, stated, setting, sizes, region, inbox, homes}
use Rattle.gr_script.specs.Tallies.{CountsLine, count_in}
use Rattle.gr_script.proofs.KindsApart.{states_none}
use Rattle.gr_script.proofs.LineTallied.{one_tallied}
use Rattle.gr_script.specs.Limits.{most_lines}

none_stated : (form : LineKind) (place : ℕ) (line : Saying) (past : List Saying) → is_kind form line.kind ≡ false
    → stated form place past ≡ stated form place (line ∷ past)
none_stated form place line past other = sym (cond-false (is_kind form line.kind) (number place line.items) (stated form place past)
    other)

homes_stay : (line : Saying) (past : List Saying) → is_kind kind.Client line.kind ≡ false → homes past ≡ homes (line ∷ past)
homes_stay line past other = sym (cond-false (is_kind kind.Client line.kind) (homes past ++ number 1 line.items ∷ []) (homes past) other)

setting_stays : (line : Saying) (past : List Saying) → 8 ≤ rank line.kind → setting past ≡ setting (line ∷ past)
setting_stays line past late =
    let none = states_none line.kind late in
    let made : Option (List ℕ) → ℕ → List ℕ → Setting =
    λ region members homes. record { region = region; members = members; clients = length homes } in
    let region_stays : region past ≡ region (line ∷ past) =
    sym (cond-false (is_kind kind.Region line.kind) (key_in line.items) (region past) none.region) in
    let members_stay = none_stated kind.Members 0 line past none.members in
    let homes_stay = homes_stay line past none.client in
    (λ i. made (region_stays i) (members_stay i) (homes_stay i))

sizes_stay : (line : Saying) (past : List Saying) → 8 ≤ rank line.kind → sizes past ≡ sizes (line ∷ past)
sizes_stay line past late =
    let none = states_none line.kind late in
    let made : ℕ → ℕ → ℕ → ℕ → Sizes =
    λ shards inbox trouble floor. record { shards = shards; inbox = inbox; trouble = trouble; floor = floor } in
    let shards_stay = none_stated kind.Shards 0 line past none.shards in
    let inbox_stays : inbox past ≡ inbox (line ∷ past) =
    sym (cond-false (is_kind kind.Inbox line.kind) (number 0 line.items) (inbox past) none.inbox) in
    let trouble_stays = none_stated kind.Trouble 0 line past none.trouble in
    let floor_stays = none_stated kind.Floor 0 line past none.floor in
    (λ i. made (shards_stay i) (inbox_stays i) (trouble_stays i) (floor_stays i))

pub index_behind : (stage_now : ℕ) (held : Setting) (founders_now : ℕ) (sizes_now : Sizes) (homes_now : List ℕ) (tallies : Tallies)
    (lines : Counted) (attendance : List Presence) (returned_then : ℕ) (past : List Saying) (line : Saying) (first second : ℕ)
    (tallies_now : Tallies) (lines_now : Counted) (attendance_now : List Presence) (returned_now : ℕ)
    → IsIndex stage_now held founders_now sizes_now homes_now tallies lines attendance returned_then past → 8 ≤ rank line.kind → length past < most_lines
    → first ≡ number 0 line.items → (is_kind kind.Join line.kind ≡ true → second ≡ number 1 line.items)
    → CountsLine line.kind first second tallies tallies_now → lines_now ≡ counted (line ∷ past)
    → IsAttendance attendance_now (lines_said (line ∷ past)) → returned_now ≡ returned (lines_said (line ∷ past))
    → IsIndex 8 held founders_now sizes_now homes_now tallies_now lines_now attendance_now returned_now (line ∷ past)
index_behind stage_now held founders_now sizes_now homes_now tallies lines attendance returned_then past line first second tallies_now
    lines_now attendance_now returned_now old late room first_is second_is more lines_are attended came_back =
    let none = states_none line.kind late in
    record {
      staged = none.last;
      set = old.set ∙ setting_stays line past late;
      founded = old.founded ∙ none_stated kind.Members 1 line past none.members;
      sized = old.sized ∙ sizes_stay line past late;
      homed = old.homed ∙ homes_stay line past none.client;
      tallied = one_tallied past line first second tallies tallies_now first_is second_is more old.tallied;
      counts = lines_are;
      attended = attended;
      came_back = came_back;
      few = omega (arith, room);
    }

-- where no line is counted
pub none_counted : (many n : ℕ) → count_in (replicate many 0) n ≡ 0
none_counted zero n = refl
none_counted (suc many) zero = refl
none_counted (suc many) (suc n) = none_counted many n
