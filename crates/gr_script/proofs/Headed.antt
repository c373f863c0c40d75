-- The heading that is said keeps its rules.
use Rattle.std.proofs.Common.{◌≡◌, ℕ, ◌+◌, ◌≤◌, ◌<◌, List, [], ◌∷◌, ◌++◌, length, true, eqb, Option, None, refl, sym, ◌∙◌, subst, arith}
use Rattle.std.proofs.Common.{inl, inr}
use Rattle.std.specs.Option.{unwrap_or, IsSome}
use Rattle.std.proofs.lemmas.Bool.{cases_lt, not-false, ltb-false, eqb-true}
use Rattle.std.proofs.lemmas.List.{length-append}
use Rattle.gr_script.specs.declared.forms.LineKind.{LineKind}
use Rattle.gr_script.specs.declared.forms.LineKind.TheVariants as kind
use Rattle.gr_script.specs.declared.items.Item.{Item}
use Rattle.gr_script.specs.declared.saying.Saying.{Saying}
use Rattle.gr_script.specs.Forms.{rank}
use Rattle.gr_script.specs.Past.{region, members, founders, shards, inbox, trouble, floor, clients, homes, stage}
use Rattle.gr_script.specs.Refusals.{tests, refusal}
use Rattle.gr_script.specs.Rules.{IsHeading, IsWithin, AreWithin, is_region}
use Rattle.gr_script.specs.Said.{heading_said}
use Rattle.gr_script.proofs.Follows.{Held, held_items, AllFollow}
use Rattle.gr_script.proofs.Standing.{passed, rank_next, early}

-- what holds of the lines that no heading lacks, once those of a stage are read
pub record Required (now : ℕ) (named : Option (List ℕ)) (members founders shards : ℕ) : Type 0 where
  pub region : 2 ≤ now → (is_region (unwrap_or named []) ≡ true) × IsSome named
  pub members_are : 3 ≤ now → IsWithin 1 8 members
  pub founders_are : 3 ≤ now → IsWithin 1 members founders
  pub shards_are : 4 ≤ now → IsWithin 1 32 shards

-- what holds of the others' numbers
pub record Ranged (inbox trouble floor : ℕ) : Type 0 where
  pub inbox_is : IsWithin 1 4096 inbox
  pub trouble_is : trouble ≤ 2147483646
  pub floor_is : floor ≤ 281474976710655

pub record Homed (members : ℕ) (clients : List ℕ) : Type 0 where
  pub few : length clients ≤ 64
  pub at_members : AreWithin 1 members clients

abbrev pub Headed : List Saying → Type 0
Headed past =
    Required (stage past) (region past) (members past) (founders past) (shards past) × Ranged (inbox past) (trouble past) (floor past)
    × Homed (members past) (homes past)

-- ---- no client is stated in front of the last line of the heading

same_homes : (past : List Saying) (form : LineKind) (items : List Item) → rank form < 7
    → homes (record { kind = form; items = items } ∷ past) ≡ homes past
same_homes past form items lt =
    early (λ f. rank f < 7 → homes (record { kind = f; items = items } ∷ past) ≡ homes past)
    (λ _. refl) (λ _. refl) (λ _. refl) (λ _. refl) (λ _. refl) (λ _. refl) (λ _. refl) (λ client. absurd (omega (arith, client)))
    form (omega (arith, lt)) lt

no_homes_yet : (past : List Saying) → AllFollow past → stage past ≤ 6 → homes past ≡ []
no_homes_yet [] all early = refl
no_homes_yet (saying ∷ past) all early =
    let low = rank_next saying.kind in
    let order = all.0.order in
    same_homes past saying.kind saying.items (omega (arith, low, early)) ∙ no_homes_yet past all.1 (omega (arith, low, early, order))

-- ---- one line more

within_more : (most : ℕ) (numbers : List ℕ) (number : ℕ) → AreWithin 1 most numbers → IsWithin 1 most number
    → AreWithin 1 most (numbers ++ number ∷ [])
within_more most [] number all one = (one, tt)
within_more most (first ∷ numbers) number all one = (all.0, within_more most numbers number all.1 one)

-- which stage is due at a line
abbrev Due : List Saying → LineKind → Type 0
Due past form = (stage past ≤ rank form) × (stage past < 4 → rank form ≡ stage past)

-- the lines of a heading are whole where a line of a later rank stands
pub whole : (past : List Saying) (form : LineKind) → 4 ≤ rank form → Due past form → 4 ≤ stage past
whole past form late due =
    elim (cases_lt (stage past) 4) [
      | inl lt ↦ let is = due.1 lt in omega (arith, late, is, lt)
      | inr le ↦ le
    ]

exact : (past : List Saying) (form : LineKind) → rank form < 4 → Due past form → rank form ≡ stage past
exact past form early due = due.1 (let at = due.0 in omega (arith, at, early))

-- at the first stage nothing is due
first_due : (now : ℕ) (named : Option (List ℕ)) (members founders shards : ℕ) → now ≤ 1 → Required now named members founders shards
first_due now named members founders shards early = record {
  region = λ at. absurd (omega (arith, at, early));
  members_are = λ at. absurd (omega (arith, at, early));
  founders_are = λ at. absurd (omega (arith, at, early));
  shards_are = λ at. absurd (omega (arith, at, early));
}

-- a later stage
later : (now next : ℕ) (named : Option (List ℕ)) (members founders shards : ℕ) → 4 ≤ now → Required now named members founders shards
    → Required next named members founders shards
later now next named members founders shards late held = record {
  region = λ _. held.region (omega (arith, late));
  members_are = λ _. held.members_are (omega (arith, late));
  founders_are = λ _. held.founders_are (omega (arith, late));
  shards_are = λ _. held.shards_are late;
}

-- the same behind a line of a later rank
still : (past : List Saying) (form : LineKind) (next : ℕ) → 4 ≤ rank form → Due past form → Headed past
    → Required next (region past) (members past) (founders past) (shards past)
still past form next late due held =
    later (stage past) next (region past) (members past) (founders past) (shards past) (whole past form late due) held.0

headed_more : (past : List Saying) (form : LineKind) (c : Held past form) → Due past form
    → refusal (tests past form (held_items past form c)) ≡ None → (stage past ≤ 6 → homes past ≡ []) → Headed past
    → Headed (record { kind = form; items = held_items past form c } ∷ past)
headed_more past kind.Georep c due none alone held =
    (first_due 1 (region past) (members past) (founders past) (shards past) (omega arith), held.1, held.2)
headed_more past kind.Region c due none alone held = (
  record {
    region = λ _. (c.1.0.1, refl);
    members_are = λ at. absurd (omega (arith, at));
    founders_are = λ at. absurd (omega (arith, at));
    shards_are = λ at. absurd (omega (arith, at));
  },
  held.1,
  held.2,
)
headed_more past kind.Members c due none alone held =
    let at = exact past kind.Members (omega arith) due in
    let least = c.1.1.0.1.0 in
    let fewer = ltb-false c.1.0.0 c.1.1.0.0 (passed (tests past kind.Members (held_items past kind.Members c)) none).0 in (
      record {
        region = λ _. held.0.region (omega (arith, at));
        members_are = λ _. c.1.0.1;
        founders_are = λ _. (least, fewer);
        shards_are = λ late. absurd (omega (arith, late));
      },
      held.1,
      record { few = held.2.few; at_members = subst (AreWithin 1 c.1.0.0) (sym (alone (omega (arith, at)))) tt },
    )
headed_more past kind.Shards c due none alone held =
    let at = exact past kind.Shards (omega arith) due in (
      record {
        region = λ _. held.0.region (omega (arith, at));
        members_are = λ _. held.0.members_are (omega (arith, at));
        founders_are = λ _. held.0.founders_are (omega (arith, at));
        shards_are = λ _. c.1.0.1;
      },
      held.1,
      held.2,
    )
headed_more past kind.Inbox c due none alone held = (
  still past kind.Inbox 5 (omega arith) due held,
  record { inbox_is = c.1.0.1; trouble_is = held.1.trouble_is; floor_is = held.1.floor_is },
  held.2,
)
headed_more past kind.Trouble c due none alone held = (
  still past kind.Trouble 6 (omega arith) due held,
  record { inbox_is = held.1.inbox_is; trouble_is = c.1.0.1.1; floor_is = held.1.floor_is },
  held.2,
)
headed_more past kind.Floor c due none alone held = (
  still past kind.Floor 7 (omega arith) due held,
  record { inbox_is = held.1.inbox_is; trouble_is = held.1.trouble_is; floor_is = c.1.0.1.1 },
  held.2,
)
headed_more past kind.Client c due none alone held =
    let pass = passed (tests past kind.Client (held_items past kind.Client c)) none in
    let next = eqb-true c.1.0.0 (clients past + 1) (not-false (eqb c.1.0.0 (clients past + 1)) pass.0) in
    let most = c.1.0.1.1 in
    let more = length-append (homes past) (c.1.1.1.0.0 ∷ []) in (
      still past kind.Client 7 (omega arith) due held,
      held.1,
      record {
        few = omega (arith, next, most, more);
        at_members = within_more (members past) (homes past) c.1.1.1.0.0 held.2.at_members c.1.1.1.0.1;
      },
    )
headed_more past form c due none alone held = (still past form 8 (omega arith) due held, held.1, held.2)

pub headed : (past : List Saying) → AllFollow past → Headed past
headed [] all = (
  first_due 0 None 0 0 0 (omega arith),
  record { inbox_is = (omega arith, omega arith); trouble_is = omega arith; floor_is = omega arith },
  record { few = omega arith; at_members = tt },
)
headed (saying ∷ past) all =
    let f = all.0 in
    subst (λ (items : List Item). Headed (record { kind = saying.kind; items = items } ∷ past)) f.items_are
    (headed_more past saying.kind f.held (f.order, f.due)
    (subst (λ (items : List Item). refusal (tests past saying.kind items) ≡ None) (sym f.items_are) f.passes)
    (no_homes_yet past all.1) (headed past all.1))

pub is_heading : (past : List Saying) → AllFollow past → 4 ≤ stage past → IsHeading (heading_said past)
is_heading past all late =
    let held = headed past all in
    record {
      named = (held.0.region (omega (arith, late))).0;
      members = held.0.members_are (omega (arith, late));
      founders = held.0.founders_are (omega (arith, late));
      shards = held.0.shards_are late;
      inbox = held.1.inbox_is;
      trouble = held.1.trouble_is;
      floor = held.1.floor_is;
      few_clients = held.2.few;
      at_members = held.2.at_members;
    }
