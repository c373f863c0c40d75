-- A run whose members were made and whose passes were dealt is ready, and what it leaves is lawful.
use Rattle.std.proofs.Common.{◌≡◌, ℕ, suc, ◌-◌, ◌<◌, List, length, Option, Some, None, sym, ap, ◌∙◌, subst, arith, get_or}
use Rattle.std.specs.Prelude.{Err, IfOk, IfSome, Ok, Result}
use Rattle.std.specs.List.{AllByRecursion}
use Rattle.gr_history.specs.declared.record.ClientRecord.{ClientRecord}
use Rattle.gr_history.specs.declared.record.Record.{Record}
use Rattle.gr_post.specs.Passes.{Ring}
use Rattle.gr_script.specs.declared.line.Line.{Line}
use Rattle.gr_script.specs.Rules.{Heading, IsScript}
use Rattle.std.proofs.lemmas.Option.{slice_get-get_or}
use Rattle.gr_run_law.specs.Threads.{IsLeftByThreads}
use Rattle.gr_run_law.proofs.Lists.{none_isnt_some, same_in_some}
use Rattle.gr_member.specs.Passes.{HaveAll, House}
use Rattle.gr_member.specs.Seats.{Place}
use Rattle.gr_runner.specs.declared.dealing.Dealt.{Dealt}
use Rattle.gr_runner.specs.declared.kits.Kits.{Kits}
use Rattle.gr_runner.specs.Dealing.{AreAtHome, AreDealt, IsDealt}
use Rattle.gr_runner.specs.Ending.{AreEnded}
use Rattle.gr_runner.specs.Going.{HasGoneBy, IsReady}
use Rattle.gr_runner.specs.Kits.{AreKits}
use Rattle.gr_runner.specs.Makings.{AreMade}
use Rattle.gr_runner.proofs.Lawful.{all_have, run_lawful}

pub at_home : (h : Heading) (lines : List Line) (rings : List Ring) (kits : Kits) → AreKits h lines rings kits → AreAtHome h kits.clients.items
at_home h lines rings kits are = record {
  many = are.clients_many;
  each = λ k d kit l.
      let many = are.clients_many in
      let less : k < length h.clients = omega (arith, l, many) in
      let back : suc k - 1 ≡ k = omega arith in
      ap (λ p. p.member) (are.each_client k kit less).plan_is ∙ ap (λ (i : ℕ). get_or h.clients i 0) back
      ∙ get_any h.clients k 0 d less;
}
  where
    get_any : (xs : List ℕ) (k x y : ℕ) → k < length xs → get_or xs k x ≡ get_or xs k y
    get_any xs k x y l = same_in_some (get_or xs k x) (get_or xs k y) (sym (slice_get-get_or xs k x l) ∙ slice_get-get_or xs k y l)

pub is_ready : (h : Heading) (lines : List Line) (houses : List House) (rings : List Ring) (passes : List (List (List Place))) (kits : Kits)
    (dealt : Dealt) → IsScript h lines → AreMade h h.members houses passes → length rings ≡ h.members → AreKits h lines rings kits
    → IsDealt h passes kits.clients.items kits.members.items dealt → AreDealt h houses dealt → IsReady h lines houses rings dealt
is_ready h lines houses rings passes kits dealt script made many kits_are dealt_are new = record {
  script = script;
  passes = passes;
  made = made;
  many = many;
  kits = kits;
  kits_are = kits_are;
  dealt_are = dealt_are;
  new = new;
}

pub have_numbers : (h : Heading) (lines : List Line) (houses : List House) (rings : List Ring) (desks : List (List Place)) (dealt : Dealt)
    (told : Option (List ClientRecord)) → IsReady h lines houses rings dealt
    → IfSome told (λ told. (h : Heading) (lines : List Line) → IsReady h lines houses rings dealt
    → HasGoneBy h lines houses rings desks told) → IfSome told (λ _. AllByRecursion HaveAll desks)
have_numbers h lines houses rings desks dealt None ready gone = gone
have_numbers h lines houses rings desks dealt (Some told) ready gone =
    let g = gone h lines ready in all_have h lines ready.script houses rings desks g.news g.gone

pub lawful_end : (h : Heading) (lines : List Line) (houses : List House) (rings : List Ring) (desks : List (List Place)) (dealt : Dealt)
    (told : Option (List ClientRecord)) (left : Record) → IsReady h lines houses rings dealt
    → IfSome told (λ told. (h : Heading) (lines : List Line) → IsReady h lines houses rings dealt
    → HasGoneBy h lines houses rings desks told) → told ≡ Some left.clients → AreEnded houses desks left.members
    → IsLeftByThreads h lines left
lawful_end h lines houses rings desks dealt None left ready gone is ended = absurd (none_isnt_some left.clients is)
lawful_end h lines houses rings desks dealt (Some told) left ready gone is ended =
    let g = gone h lines ready in
    let same = sym g.told_is ∙ same_in_some told left.clients is in
    subst (λ (clients : List ClientRecord). IsLeftByThreads h lines (record { members = left.members; clients = clients })) same
    (run_lawful h lines ready.script houses rings desks g.news g.gone left.members ended)

pub ok_then : {X E : Type 0} (P Q : X → Type 0) → ((x : X) → P x → Q x) → (r : Result X E) → IfOk r P → IfOk r Q
ok_then P Q next (Ok x) p = next x p
ok_then P Q next (Err e) p = p

pub ok_both : {X E : Type 0} (P Q R : X → Type 0) → ((x : X) → P x → Q x → R x) → (r : Result X E) → IfOk r P → IfOk r Q → IfOk r R
ok_both P Q R both (Ok x) p q = both x p q
ok_both P Q R both (Err e) p q = p
