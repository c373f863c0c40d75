-- What comes of a mail, and of a report.
use Rattle.std.proofs.Common.{◌≡◌, ℕ, zero, suc, ◌+◌, ◌<◌, ◌≤◌, Bool, true, List, [], ◌∷◌, ◌++◌, length, get_or, take, if◌then◌else◌}
use Rattle.std.proofs.Common.{refl, sym, ap, ◌∙◌, subst, arith, append-nil, append_assoc}
use Rattle.std.specs.Prelude.{flat_map, nat_lt}
use Rattle.std.proofs.lemmas.Bool.Decides.{nat_tests}
use Rattle.gr_value.specs.Shard.{shard_of}
use Rattle.gr_stamp.specs.declared.change.Change.{Change}
use Rattle.gr_vector.specs.declared.report.Report.{Report}
use Rattle.gr_history.specs.declared.deed.Deed.TheVariants.{Heard, Taken}
use Rattle.gr_history.specs.declared.verdict.Verdict.{Verdict}
use Rattle.gr_history.specs.declared.verdict.Verdict.TheVariants.{Repeat}
use Rattle.gr_post.specs.declared.mail.Mail.TheVariants as mail_
use Rattle.gr_post.specs.declared.mail.Posting.{Posting}
use Rattle.gr_post.specs.Couriers.{Carrying}
use Rattle.gr_run_law.specs.Plans.{posted_from}
use Rattle.gr_run_law.specs.Threads.{HeardOf, work_at}
use Rattle.gr_member.specs.Seats.{Place}
use Rattle.gr_member.specs.Passes.{AddsAt}
use Rattle.gr_session.specs.Mailing.{CarriesOn}
use Rattle.gr_session.specs.Steps.{AddsEach}
use Rattle.gr_session.proofs.Mailing.{carries_same, carries_trans}
use Rattle.gr_host.specs.Works.{Follows, PostsReport}
use Rattle.gr_host.proofs.Lists.{get_below, take_next}
use Rattle.gr_host.proofs.Seats.{added_at}

-- ---- a mail

pub follows_change : (shards at : ℕ) (change : Change) (told : Verdict) (p q : List Place)
    → AddsAt (shard_of change.key shards) p (Taken change told) q → Follows shards (mail_.Change at change) p q
follows_change shards at change told p q a = (told, added_at (shard_of change.key shards) p q (Taken change told) a)

pub follows_report : (shards at : ℕ) (report : Report) (p q : List Place) → at < shards → AddsAt at p (Heard report) q
    → Follows shards (mail_.Report at report) p q
follows_report shards at report p q less a = (
  Repeat,
  λ shard s there.
      subst (λ (b : Bool). AddsEach (get_or p shard s) (flat_map (work_at shards shard) (if b then HeardOf at report ∷ [] else []))
      (get_or q shard s)) (sym (below at shards less)) (added_at at p q (Heard report) a shard s there),
)
  where
    below : (a b : ℕ) → a < b → nat_lt a b ≡ true
    below a b less = grind (arith, nat_tests)

-- ---- reports that are posted

posted_last : (to from : ℕ) (reports : List Report) (report : Report)
    → posted_from to from (reports ++ report ∷ []) ≡ posted_from to from reports ++ posted_from to (from + length reports) (report ∷ [])
posted_last to from [] report = ap (λ (n : ℕ). posted_from to n (report ∷ [])) (omega arith)
posted_last to from (first ∷ reports) report =
    ap (λ (l : List Posting). (record { mail = mail_.Report from first; to = to }) ∷ l)
    (posted_last to (suc from) reports report
    ∙ ap (λ (n : ℕ). posted_from to (suc from) reports ++ posted_from to n (report ∷ [])) (omega arith))

length_take : {A : Type 0} (xs : List A) (n : ℕ) → n ≤ length xs → length (take n xs) ≡ n
length_take xs zero less = refl
length_take [] (suc n) less = absurd (omega arith)
length_take (x ∷ xs) (suc n) less = ap suc (length_take xs n (omega arith))

-- The first reports were posted.
pub record PostsUpto (to : ℕ) (reports : List Report) (c d : Carrying) (count : ℕ) : Type 0 where
  pub carries : CarriesOn c d
  pub posted : d.posted ≡ c.posted ++ posted_from to 0 (take count reports)

pub posts_none : (to : ℕ) (reports : List Report) (c : Carrying) → PostsUpto to reports c c 0
posts_none to reports c = record { carries = carries_same c; posted = sym (append-nil c.posted) }

pub posts_more : (to : ℕ) (reports : List Report) (c d e : Carrying) (count : ℕ) → PostsUpto to reports c d count → CarriesOn d e
    → PostsReport to count reports d.posted e.posted → PostsUpto to reports c e (count + 1)
posts_more to reports c d e count so on one =
    let next : suc count ≡ count + 1 = omega arith in
    let less = get_below reports count one.0 one.1 in
    let long : length (take count reports) ≡ count = length_take reports count (omega arith) in
    let from : count ≡ 0 + length (take count reports) = omega arith in
    subst (PostsUpto to reports c e) next (record {
      carries = carries_trans c d e so.carries on;
      posted = one.2 ∙ ap (λ (l : List Posting). l ++ posted_from to count (one.0 ∷ [])) so.posted
          ∙ append_assoc c.posted (posted_from to 0 (take count reports)) (posted_from to count (one.0 ∷ []))
          ∙ ap (λ (l : List Posting). c.posted ++ l)
          (ap (λ (n : ℕ). posted_from to 0 (take count reports) ++ posted_from to n (one.0 ∷ [])) from
          ∙ sym (posted_last to 0 (take count reports) one.0)
          ∙ ap (posted_from to 0) (sym (take_next reports count one.0 one.1)));
    })
