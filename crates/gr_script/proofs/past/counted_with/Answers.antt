use Rattle.std.proofs.Common.{◌≡◌, ◌∙◌, ℕ, ◌+◌, List, ◌∷◌, Bool, cond, sym, ap}
use Rattle.std.specs.List.{count_by}
use Rattle.std.proofs.lemmas.List.Sums.{sum_by-cons}
use Rattle.gr_script.specs.declared.forms.LineKind.{LineKind}
use Rattle.gr_script.specs.declared.forms.LineKind.TheVariants as kind
use Rattle.gr_script.specs.declared.past.Counted.{Counted}
use Rattle.gr_script.specs.declared.saying.Saying.{Saying}
use Rattle.gr_script.specs.Forms.{is_kind}
use Rattle.gr_script.specs.Past.{heard_on, hears, is_query}
use Rattle.gr_script.proofs.past.counted_with.Goals as goal

-- one line more of such a kind, or none
one_more : (holds : LineKind → Bool) (past : List Saying) (line : Saying) (form : LineKind) (test : Bool) (count now : ℕ)
    → test ≡ holds form → form ≡ line.kind → now ≡ cond test 1 0 + count → count ≡ count_by (λ (l : Saying). holds l.kind) past
    → now ≡ count_by (λ (l : Saying). holds l.kind) (line ∷ past)
one_more holds past line form test count now test_is form_is now_is count_is =
    now_is ∙ ap (λ (b : Bool). cond b 1 0 + count) test_is ∙ ap (λ (f : LineKind). cond (holds f) 1 0 + count) form_is
    ∙ ap (λ (n : ℕ). cond (holds line.kind) 1 0 + n) count_is ∙ sym (sum_by-cons (λ (l : Saying). cond (holds l.kind) 1 0) line past)

pub returns : goal.returns
returns c past line same is =
    let form = c.args.kind in
    let more = λ (holds : LineKind → Bool) (test : Bool) (count now : ℕ) (test_is : test ≡ holds form) (now_is : now ≡ cond test 1 0 + count)
    (count_is : count ≡ count_by (λ (l : Saying). holds l.kind) past).
    one_more holds past line form test count now test_is is now_is count_is in
    let reports_are = more (is_kind kind.Report) c.is_kind.result c.args.counts.reports c.counted.result c.is_kind.ensures c.counted.ensures
    (ap (λ (k : Counted). k.reports) same) in
    let hears_are = c.hears_with.ensures past same ∙ ap (λ (f : LineKind). heard_on past f + hears past) is in
    let sweeps_are = more (is_kind kind.Sweep) c.is_kind-2.result c.args.counts.sweeps c.counted-2.result c.is_kind-2.ensures
    c.counted-2.ensures (ap (λ (k : Counted). k.sweeps) same) in
    let opens_are = more (is_kind kind.Open) c.is_kind-3.result c.args.counts.opens c.counted-3.result c.is_kind-3.ensures
    c.counted-3.ensures (ap (λ (k : Counted). k.opens) same) in
    let queries_are = more is_query c.is_query.result c.args.counts.queries c.counted-4.result c.is_query.ensures c.counted-4.ensures
    (ap (λ (k : Counted). k.queries) same) in
    let departs_are = more (is_kind kind.Depart) c.is_kind-4.result c.args.counts.departs c.counted-5.result c.is_kind-4.ensures
    c.counted-5.ensures (ap (λ (k : Counted). k.departs) same) in
    let made : ℕ → ℕ → ℕ → ℕ → ℕ → ℕ → Counted = λ reports hears sweeps opens queries departs. record {
      reports = reports;
      hears = hears;
      sweeps = sweeps;
      opens = opens;
      queries = queries;
      departs = departs;
    } in
    (λ i. made (reports_are i) (hears_are i) (sweeps_are i) (opens_are i) (queries_are i) (departs_are i))
