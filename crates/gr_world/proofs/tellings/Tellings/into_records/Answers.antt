use Rattle.std.proofs.Common.{ℕ, List, ◌≡◌, ◌∙◌, ap, ◌+◌, ◌-◌, ◌∷◌, [], sym, subst, length, slice_index, arith}
use Rattle.std.proofs.lemmas.List.{length-append}
use Rattle.gr_history.specs.declared.record.Answer.{Answer}
use Rattle.gr_history.specs.declared.record.ClientRecord.{ClientRecord}
use Rattle.gr_world.specs.Numbered.{PairsFrom}
use Rattle.gr_world.specs.Worlds.{IsClientOf}
use Rattle.gr_world.proofs.Lists.{pairs_more, pairs_length}
use Rattle.gr_world.proofs.tellings.Tellings.into_records.Goals as goal

client_at : (members : List ℕ) (told : List Answer) (place n : ℕ) → place ≡ n
    → IsClientOf members (1 + n) told (record { client = place + 1; member = slice_index members place; answers = told })
client_at members told place n same =
    let client : ℕ → ℕ → ClientRecord = λ number at. record { client = number; member = slice_index members at; answers = told } in
    let number : place + 1 ≡ 1 + n = omega (arith, same) in
    let at : place ≡ 1 + n - 1 = omega (arith, same) in
    ap (λ k. client k place) number ∙ ap (client (1 + n)) at

pub loop-answers-preserved : goal.loop-answers-preserved
loop-answers-preserved c =
    let members = c.args.members.now in
    let same = pairs_length (IsClientOf members) 1 c.loop-answers.yielded c.loop-answers.clients c.loop-answers.invariant.0 in
    let more = length-append c.loop-answers.yielded (c.in-Some.answers ∷ []) in (
      subst (PairsFrom (IsClientOf members) 1 _) (sym c.in_ok-push.ensures.ok)
          (pairs_more (IsClientOf members) 1 c.loop-answers.yielded c.loop-answers.clients c.in-Some.answers _ c.loop-answers.invariant.0
          (client_at members c.in-Some.answers c.loop-answers.place (length c.loop-answers.clients)
          (c.loop-answers.invariant.1 ∙ same))),
      omega (arith, more, c.loop-answers.invariant.1),
    )
