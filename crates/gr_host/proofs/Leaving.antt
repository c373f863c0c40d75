-- What a member's thread leaves.
use Rattle.std.proofs.Common.{◌≡◌, ℕ, ◌-◌, ◌<◌, List, [], ◌++◌, length, get_or, map, true}
use Rattle.std.proofs.Common.{sym, ap, ◌∙◌, subst, arith, append-nil}
use Rattle.std.specs.Prelude.{flat_map, filter, reverse}
use Rattle.std.specs.List.{AllByRecursion, filter_map}
use Rattle.std.proofs.lemmas.List.{length-map, get_or-map}
use Rattle.gr_post.specs.declared.mail.Mail.{Mail}
use Rattle.gr_post.specs.declared.mail.Posted.{Posted}
use Rattle.gr_post.specs.declared.mail.Posting.{Posting}
use Rattle.gr_post.specs.declared.stage.Stage.{Stage}
use Rattle.gr_post.specs.declared.stage.Stage.TheVariants.{Ended}
use Rattle.gr_post.specs.Couriers.{Carrying, Follows, FollowsPlan, Line, NothingWaits, draws_of, ended, passes_of, tables_of}
use Rattle.gr_post.specs.Passes.{Ring, Sending}
use Rattle.gr_post.specs.Plan.{Draw, delivered, draws}
use Rattle.gr_run_law.specs.Plans.{posted_from}
use Rattle.gr_run_law.specs.Threads.{is_for, round_of, work_at}
use Rattle.gr_member.specs.Plans.{identity_of}
use Rattle.gr_member.specs.Seats.{Place}
use Rattle.gr_member.specs.Passes.{House}
use Rattle.gr_session.specs.Mailing.{CarriesOn, numbers_of}
use Rattle.gr_host.specs.declared.duties.Duty.{Duty}
use Rattle.gr_host.specs.declared.host.Host.{Host}
use Rattle.gr_host.specs.Houses.{IsOther, of_member}
use Rattle.gr_host.specs.Hosts.{HasBegun, HasMailAt, HostGoesOn, IsHostAt, IsHosted, IsThrough, Works}
use Rattle.gr_host.specs.Mails.{others_of}
use Rattle.gr_session.specs.Mailing.{HasSent}
use Rattle.gr_host.proofs.Hosting.{as_many, goes_trans, works_sent, works_trans}
use Rattle.gr_host.proofs.Seats.{given_alone, stand_alone}

-- ---- what is sent

-- The courier had its last mail, and nothing waits.
record IsAtEnd (c f : Carrying) : Type 0 where
  pub stage : f.stage ≡ Ended
  pub first : f.first ≡ c.first
  pub many : length (passes_of f) ≡ length (passes_of c)
  pub tables : tables_of f ≡ tables_of c
  pub numbers : numbers_of (passes_of f) ≡ numbers_of (passes_of c)
  pub none : NothingWaits f.lines

-- The courier c went on to d, had its last mail, which is e, and went on to f.
at_end : (c d e f : Carrying) → CarriesOn c d → e ≡ ended d e.lines → passes_of e ≡ passes_of d → CarriesOn e f → NothingWaits f.lines
    → IsAtEnd c f
at_end c d e f a last same b none = record {
  stage = b.stage ∙ ap (λ (k : Carrying). k.stage) last;
  first = b.first ∙ ap (λ (k : Carrying). k.first) last ∙ a.first;
  many = b.many ∙ ap length same ∙ a.many;
  tables = b.tables ∙ ap (map (λ (p : Sending). p.table)) same ∙ a.tables;
  numbers = b.numbers ∙ ap numbers_of same ∙ a.numbers;
  none = none;
}

follows_end : (ds : List Draw) (stage : Stage) (out : List Mail) → stage ≡ Ended → Follows ds stage out → out ≡ delivered ds
follows_end ds stage out e f = subst (λ (s : Stage). Follows ds s out) e f

has_sent : (c f : Carrying) (posted : List Posting) (sends : List Sending) → IsAtEnd c f → f.posted ≡ posted → FollowsPlan f
    → sends ≡ passes_of f → HasSent c posted sends
has_sent c f posted sends a were plan is =
    let long : length f.lines ≡ length c.lines =
    sym (length-map f.lines (λ (l : Line). l.pass)) ∙ a.many ∙ length-map c.lines (λ (l : Line). l.pass) in
    record {
      many = ap length is ∙ length-map f.lines (λ (l : Line). l.pass) ∙ long;
      tables = ap (map (λ (q : Sending). q.table)) is ∙ a.tables;
      numbers = ap numbers_of is ∙ a.numbers;
      sent = λ k d less.
          let line : Line = record { pass = d; waiting = [] } in
          let here : k < length f.lines = omega arith in
          let out = follows_end (draws_of f k) f.stage _ a.stage (plan k line here) in
          ap (λ (l : List Sending). (get_or l k d).sent) is
          ∙ ap (λ (q : Sending). q.sent) (get_or-map (λ (l : Line). l.pass) f.lines k line d here)
          ∙ sym (append-nil (get_or f.lines k line).pass.sent)
          ∙ ap (λ (l : List Mail). (get_or f.lines k line).pass.sent ++ l) (sym (a.none k line here))
          ∙ out
          ∙ ap delivered (ap (λ (n : ℕ). draws n f.first k (reverse f.posted)) long
          ∙ ap (λ (n : ℕ). draws (length c.lines) n k (reverse f.posted)) a.first
          ∙ ap (λ (l : List Posting). draws (length c.lines) c.first k (reverse l)) were);
    }

-- ---- all of it

-- The thread s did all its lines, which is t; its courier had its last mail, which is e; and it went on to u, where all is taken and sent.
pub leaves : (houses : List House) (rings : List Ring) (s t : Host) (e : Carrying) (u : Host) (sends : List Sending)
    → IsHostAt houses rings s → HasBegun s
    → HostGoesOn s t → CarriesOn s.courier t.courier → Works s t s.duties
    → e ≡ ended t.courier e.lines → passes_of e ≡ passes_of t.courier
    → HostGoesOn (record t { courier = e }) u → CarriesOn e u.courier → Works (record t { courier = e }) u [] → IsThrough u
    → HasMailAt rings u → FollowsPlan u.courier → sends ≡ passes_of u.courier
    → IsHosted s u.pass u.visits.items u.take sends
leaves houses rings s t e u sends at begun g on works last same h ons rest through mail plan is =
    let between : HostGoesOn s (record t { courier = e }) =
    record { plan = g.plan; duties = g.duties; stays = g.stays; visits = g.visits } in
    let goes = goes_trans s (record t { courier = e }) u between h in
    let all : Works s u (s.duties ++ []) =
    works_trans s (record t { courier = e }) u s.duties [] between
    (subst (λ (l : List Duty). Works s (record t { courier = e }) l) (append-nil s.duties)
    (works_trans s t (record t { courier = e }) s.duties [] g works (works_sent t e (ap (λ (k : Carrying). k.posted) last)))) rest in
    left goes (subst (λ (l : List Duty). Works s u l) (append-nil s.duties) all)
    (at_end s.courier t.courier e u.courier on last same ons through.sent)
  where
    left : HostGoesOn s u → Works s u s.duties → IsAtEnd s.courier u.courier → IsHosted s u.pass u.visits.items u.take sends
    left goes w end =
        let did = w.1.did in
        let took = w.1.took in
        let taken : u.take.taken ≡ w.1.more = took.taken ∙ ap (λ (l : List Posted). l ++ w.1.more) begun.taken in
        let many : length s.pass ≡ s.plan.shards = as_many houses rings s at in
        let wide = goes.stays.many in
        record {
          works = w.0;
          stands = λ shard p less.
              let there : shard < length s.pass = omega arith in
              let here : shard < s.plan.shards = omega arith in
              stand_alone (get_or s.pass shard p) (get_or u.pass shard p) (flat_map (work_at s.plan.shards shard) w.0)
              (begun.pass shard p there) (did.stand shard p here);
          fits = did.fits;
          duties = did.duties_are;
          mails = w.1.mails ∙ ap (λ (l : List Posted). filter (is_for s.plan.shards) (map (λ (p : Posted). p.mail) l)) (sym taken);
          givers = did.givers;
          gifts = did.gifts;
          gave = λ giver shard x p other less long.
              given_alone (identity_of (of_member s.plan giver) shard) s.plan.floor s.plan.member
              (get_or (get_or s.visits.items (giver - 1) x) shard p) (get_or (get_or u.visits.items (giver - 1) x) shard p)
              (did.gifts giver shard) (none giver shard x p other less (sym goes.visits.many ∙ long))
              (did.gave giver shard x p other less);
          whats = did.whats;
          got = did.got;
          merged = did.merged;
          spare = did.spare;
          table = took.table;
          as_many = took.senders;
          met = took.met;
          senders = subst (λ (l : List Posted). AllByRecursion (λ (p : Posted). p.from < s.take.senders) l) (sym taken) took.known;
          ended = λ k less.
              let same = took.senders in
              let there : k < u.take.senders = omega arith in
              let count = mail.ends.many in
              sym (mail.ends.each k true there) ∙ through.ended k true (omega arith);
          sent = has_sent s.courier u.courier (flat_map (posted_from (others_of s.plan) 0) (filter_map round_of w.0)) sends end
              (w.1.posted ∙ ap (λ (l : List Posting). l ++ flat_map (posted_from (others_of s.plan) 0) (filter_map round_of w.0)) begun.posted)
              plan is;
        }
      where
        none : (giver shard : ℕ) (x : List Place) (p : Place) → IsOther s.plan giver → shard < s.plan.shards
            → length s.visits.items ≡ s.plan.members → (get_or (get_or s.visits.items (giver - 1) x) shard p).view.made ≡ []
        none giver shard x p other less long =
            let h : House = record { plan = s.plan; locks = [] } in
            let passes = at.visits long in
            let some = other.some in
            let stated = other.stated in
            let count = at.members.many in
            let there : giver - 1 < length s.visits.items = omega arith in
            let house : giver - 1 < length houses = omega arith in
            let wide = (passes.each (giver - 1) h x house).many in
            let locks = at.members.shards (giver - 1) h (omega arith) in
            begun.visits (giver - 1) x there shard p (omega arith)
