-- Lines that were read can be kept as a script keeps them.
use Rattle.std.proofs.Common.{◌≡◌, ℕ, ◌≤◌, ◌<◌, ◌^◌, List, ◌∷◌, length, true, eqb, ◌&&◌, None, Some, option_map, refl, sym, subst, arith}
use Rattle.std.proofs.lemmas.List.Sums.{count_by-le-length}
use Rattle.gr_script.specs.declared.forms.FieldKind.{FieldKind}
use Rattle.gr_script.specs.declared.forms.FieldKind.TheVariants as field
use Rattle.gr_script.specs.declared.forms.LineKind.{LineKind}
use Rattle.gr_script.specs.declared.forms.LineKind.TheVariants as kind
use Rattle.gr_script.specs.declared.items.Item.{Item}
use Rattle.gr_script.specs.declared.items.Setting.{Setting}
use Rattle.gr_script.specs.declared.operation.Keyed.TheVariants.{Get}
use Rattle.gr_script.specs.declared.operation.Operation.TheVariants.{OfKey, OfValue, OfPair}
use Rattle.gr_script.specs.declared.operation.Paired.TheVariants.{ReplaceIf}
use Rattle.gr_script.specs.declared.operation.Valued.TheVariants.{Put}
use Rattle.gr_script.specs.declared.saying.Saying.{Saying}
use Rattle.gr_script.specs.Forms.{fields, rank, is_clients, is_step, is_kind}
use Rattle.gr_script.specs.Kept.{CanBeKept}
use Rattle.gr_script.specs.Narrow.{IsNarrowStep, IsNarrow}
use Rattle.gr_script.specs.Past.{number, setting, members, steps, reports}
use Rattle.gr_script.specs.Printed.{saying_in}
use Rattle.gr_script.specs.Refusals.{tests, refusal}
use Rattle.gr_script.specs.Rules.{IsWithin}
use Rattle.gr_script.specs.Said.{line_of}
use Rattle.gr_script.proofs.Contents.{Contents, items_of}
use Rattle.gr_script.proofs.Follows.{Held, held_items, AllFollow}
use Rattle.gr_script.proofs.Fronts.{client_fields}
use Rattle.gr_script.proofs.Headed.{headed, whole}
use Rattle.gr_script.proofs.Standing.{passed, not_missing}
use Rattle.gr_script.specs.Limits.{most_clients, most_lines, most_moment}

narrow_client : (setting : Setting) (kinds more : List FieldKind) → kinds ≡ field.Client ∷ more → (c : Contents setting kinds)
    → IsNarrowStep (items_of setting kinds c)
narrow_client setting (field.Client ∷ kinds) more e c = let most = c.0.1.0.1 in omega (arith, most)
narrow_client setting _ more e c = absurd cc

-- a step is a client's line
clients : (form : LineKind) → is_step form ≡ true → is_clients form ≡ true
clients kind.Leave is = refl
clients kind.Back is = refl
clients _ is = is

narrow_step : (past : List Saying) (form : LineKind) (c : Held past form) → is_step form ≡ true → IsNarrowStep (held_items past form c)
narrow_step past form c is = narrow_client (setting past) (fields form) _ (client_fields form (clients form is)) c

few : (client : ℕ) (past : List Saying) → length past ≤ most_lines → steps client past < 2 ^ 32
few client past le =
    let within = count_by-le-length (λ (l : Saying). is_step l.kind && eqb (number 0 l.items) client) past in
    omega (arith, within, le)

few_reports : (member : ℕ) (past : List Saying) → length past ≤ most_lines → reports member past < 2 ^ 32
few_reports member past le =
    let within = count_by-le-length (λ (l : Saying). is_kind kind.Report l.kind && eqb (number 0 l.items) member) past in
    omega (arith, within, le)

-- a member's number, where there are at most 8
small : (past : List Saying) (member : ℕ) → members past ≤ 8 → IsWithin 1 (members past) member → member < 2 ^ 8
small past member most within =
    let last = within.1 in
    omega (arith, most, last)

narrow_moment : (client moment : ℕ) → client ≤ most_clients → moment ≤ most_moment → (client < 2 ^ 8) × (moment < 2 ^ 32)
narrow_moment client moment few early = (omega (arith, few), omega (arith, early))

narrow : (past : List Saying) (form : LineKind) (c : Held past form) → refusal (tests past form (held_items past form c)) ≡ None
    → (4 ≤ rank form → members past ≤ 8) → length past ≤ most_lines → IsNarrow form (held_items past form c)
narrow past kind.Deliver c none most le =
    let client = c.1.1.0.1.0.1 in
    let pass = passed (tests past kind.Deliver (held_items past kind.Deliver c)) none in
    let seq = (not_missing c.1.1.0.0.1 (steps c.1.1.0.0.0 past) pass.0).1 in
    let count = few c.1.1.0.0.0 past le in
    (small past c.1.0.0 (most (omega arith)) c.1.0.1, omega (arith, client), omega (arith, seq, count))
narrow past kind.Report c none most le = small past c.1.0.0 (most (omega arith)) c.1.0.1
narrow past kind.Hear c none most le =
    let pass = passed (tests past kind.Hear (held_items past kind.Hear c)) none in
    let seq = (not_missing c.1.1.1.0 (reports c.1.1.0.0 past) pass.0).1 in
    let count = few_reports c.1.1.0.0 past le in
    (small past c.1.0.0 (most (omega arith)) c.1.0.1, small past c.1.1.0.0 (most (omega arith)) c.1.1.0.1, omega (arith, seq, count))
narrow past kind.Sweep c none most le =
    let moment = c.1.1.0.1.1 in
    (small past c.1.0.0 (most (omega arith)) c.1.0.1, omega (arith, moment))
narrow past kind.Join c none most le =
    (small past c.1.0.0 (most (omega arith)) c.1.0.1, small past c.1.1.0.0 (most (omega arith)) c.1.1.0.1)
narrow past kind.Depart c none most le = small past c.1.0.0 (most (omega arith)) c.1.0.1
narrow past kind.Leave c none most le = narrow_moment c.0.0 c.1.1.0.0 c.0.1.0.1 c.1.1.0.1.1
narrow past kind.Back c none most le = narrow_moment c.0.0 c.1.1.0.0 c.0.1.0.1 c.1.1.0.1.1
narrow past _ c none most le = tt

said_back : (past : List Saying) (form : LineKind) (c : Held past form) → 8 ≤ rank form
    → option_map saying_in (line_of past (record { kind = form; items = held_items past form c }))
    ≡ Some (record { kind = form; items = held_items past form c })
said_back past kind.Georep c late = absurd (omega arith)
said_back past kind.Region c late = absurd (omega arith)
said_back past kind.Members c late = absurd (omega arith)
said_back past kind.Shards c late = absurd (omega arith)
said_back past kind.Inbox c late = absurd (omega arith)
said_back past kind.Trouble c late = absurd (omega arith)
said_back past kind.Floor c late = absurd (omega arith)
said_back past kind.Client c late = absurd (omega arith)
said_back past (kind.Call (OfKey Get)) c late = refl
said_back past (kind.Call (OfKey _)) c late = refl
said_back past (kind.Call (OfValue Put)) c late = refl
said_back past (kind.Call (OfValue _)) c late = refl
said_back past (kind.Call (OfPair ReplaceIf)) c late = refl
said_back past _ c late = refl

pub can_be_kept : (past : List Saying) (saying : Saying) → AllFollow (saying ∷ past) → length past ≤ most_lines → CanBeKept past saying
can_be_kept past saying all few =
    let f = all.0 in
    let held = headed past all.1 in
    let most = λ (late : 4 ≤ rank saying.kind).
    (held.0.members_are (let at = whole past saying.kind late (f.order, f.due) in omega (arith, at))).1 in
    record {
      order = f.order;
      step = λ is. subst IsNarrowStep f.items_are (narrow_step past saying.kind f.held is);
      other = subst (IsNarrow saying.kind) f.items_are
          (narrow past saying.kind f.held
          (subst (λ (is : List Item). refusal (tests past saying.kind is) ≡ None) (sym f.items_are) f.passes)
          most few);
      back = λ late. subst
          (λ (is : List Item).
          option_map saying_in (line_of past (record { kind = saying.kind; items = is }))
          ≡ Some (record { kind = saying.kind; items = is }))
          f.items_are (said_back past saying.kind f.held late);
    }
