-- What of a courier stays, and what it has sent in the end.
use Rattle.std.proofs.Common.{◌≡◌, ℕ, zero, suc, ◌<◌, List, [], ◌∷◌, ◌++◌, length, get_or, map}
use Rattle.std.proofs.Common.{refl, sym, ap, ◌∙◌, subst, arith, append-nil}
use Rattle.std.specs.Prelude.{reverse}
use Rattle.std.proofs.lemmas.List.{length-map, get_or-map}
use Rattle.gr_post.specs.declared.mail.Mail.{Mail}
use Rattle.gr_post.specs.declared.mail.Posting.{Posting}
use Rattle.gr_post.specs.declared.stage.Stage.{Stage}
use Rattle.gr_post.specs.declared.stage.Stage.TheVariants.{Ended}
use Rattle.gr_post.specs.Couriers.{Carrying, Line, LineMoves, Follows, FollowsPlan, IsPushed, NothingWaits}
use Rattle.gr_post.specs.Couriers.{draws_of, ended, passes_of, posting}
use Rattle.gr_post.specs.Passes.{Ring, Sending}
use Rattle.gr_post.specs.Plan.{Draw, delivered, draws}
use Rattle.gr_session.specs.Mailing.{CanPost, CarriesOn, HaveDelivered, numbers_of}

pub carries_same : (c : Carrying) → CarriesOn c c
carries_same c = record { stage = refl; first = refl; many = refl; tables = refl; numbers = refl }

pub carries_trans : (c d e : Carrying) → CarriesOn c d → CarriesOn d e → CarriesOn c e
carries_trans c d e a b = record {
  stage = b.stage ∙ a.stage;
  first = b.first ∙ a.first;
  many = b.many ∙ a.many;
  tables = b.tables ∙ a.tables;
  numbers = b.numbers ∙ a.numbers;
}

-- nothing but what is posted and what waits is changed
pub carries_passes : (c d : Carrying) → d.stage ≡ c.stage → d.first ≡ c.first → passes_of d ≡ passes_of c → CarriesOn c d
carries_passes c d stage first same = record {
  stage = stage;
  first = first;
  many = ap length same;
  tables = ap (map (λ (p : Sending). p.table)) same;
  numbers = ap numbers_of same;
}

-- a mail was posted
pub posted_carries : (c d : Carrying) (mail : Mail) (to : ℕ) → d ≡ posting c mail to d.lines → passes_of d ≡ passes_of c → CarriesOn c d
posted_carries c d mail to is same =
    carries_passes c d (ap (λ (k : Carrying). k.stage) is) (ap (λ (k : Carrying). k.first) is) same

same_numbers : (xs ys : List Line) → length ys ≡ length xs
    → ((k : ℕ) (d : Line) → k < length xs → LineMoves (get_or xs k d) (get_or ys k d))
    → map (λ (p : Sending). p.number) (map (λ (l : Line). l.pass) ys) ≡ map (λ (p : Sending). p.number) (map (λ (l : Line). l.pass) xs)
same_numbers [] [] n moves = refl
same_numbers [] (y ∷ ys) n moves = absurd (omega arith)
same_numbers (x ∷ xs) [] n moves = absurd (omega arith)
same_numbers (x ∷ xs) (y ∷ ys) n moves =
    let first : y.pass.number ≡ x.pass.number = ap (λ (p : Sending). p.number) (moves zero x (omega arith)).pass in
    let rest = same_numbers xs ys (omega arith) (λ k d less. moves (suc k) d (omega arith)) in
    cc

pub pushed_carries : (c d : Carrying) → IsPushed c d → CarriesOn c d
pushed_carries c d p = record {
  stage = ap (λ (k : Carrying). k.stage) p.same;
  first = ap (λ (k : Carrying). k.first) p.same;
  many = length-map d.lines (λ (l : Line). l.pass) ∙ p.count ∙ sym (length-map c.lines (λ (l : Line). l.pass));
  tables = p.tables;
  numbers = same_numbers c.lines d.lines p.count p.moves;
}

pub pushed_posts : (c d : Carrying) → IsPushed c d → d.posted ≡ c.posted
pushed_posts c d p = ap (λ (k : Carrying). k.posted) p.same

pub can_post : (rings : List Ring) (members : ℕ) (c d : Carrying) → CarriesOn c d → CanPost rings members c → CanPost rings members d
can_post rings members c d on can = record {
  its = can.its ∙ sym on.tables;
  takes = record { stage = on.stage ∙ can.takes.stage; many = on.many ∙ can.takes.many };
}

-- ---- at the end

follows_end : (ds : List Draw) (stage : Stage) (out : List Mail) → stage ≡ Ended → Follows ds stage out → out ≡ delivered ds
follows_end ds stage out e f = subst (λ (s : Stage). Follows ds s out) e f

-- The courier c had its last mail, which is e, and was flushed, which is f: its passes are the ones that it had.
pub delivered_all : (c e f : Carrying) (passes : List Sending) → e ≡ ended c e.lines → passes_of e ≡ passes_of c → IsPushed e f
    → NothingWaits f.lines → passes ≡ passes_of f → FollowsPlan f → HaveDelivered c passes
delivered_all c e f passes last same p none is plan =
    let on = pushed_carries e f p in
    let long : length f.lines ≡ length c.lines =
    p.count ∙ sym (length-map e.lines (λ (l : Line). l.pass)) ∙ ap length same ∙ length-map c.lines (λ (l : Line). l.pass) in
    let first : f.first ≡ c.first = on.first ∙ ap (λ (k : Carrying). k.first) last in
    let posted : f.posted ≡ c.posted = pushed_posts e f p ∙ ap (λ (k : Carrying). k.posted) last in
    let stage : f.stage ≡ Ended = on.stage ∙ ap (λ (k : Carrying). k.stage) last in
    record {
      many = ap length is ∙ length-map f.lines (λ (l : Line). l.pass) ∙ long;
      tables = ap (map (λ (q : Sending). q.table)) is ∙ on.tables ∙ ap (map (λ (q : Sending). q.table)) same;
      numbers = ap numbers_of is ∙ on.numbers ∙ ap numbers_of same;
      sent = λ k d less.
          let line : Line = record { pass = d; waiting = [] } in
          let here : k < length f.lines = omega arith in
          let out = follows_end (draws_of f k) f.stage _ stage (plan k line here) in
          ap (λ (l : List Sending). (get_or l k d).sent) is
          ∙ ap (λ (q : Sending). q.sent) (get_or-map (λ (l : Line). l.pass) f.lines k line d here)
          ∙ sym (append-nil (get_or f.lines k line).pass.sent)
          ∙ ap (λ (l : List Mail). (get_or f.lines k line).pass.sent ++ l) (sym (none k line here))
          ∙ out
          ∙ ap delivered (ap (λ (n : ℕ). draws n f.first k (reverse f.posted)) long
          ∙ ap (λ (n : ℕ). draws (length c.lines) n k (reverse f.posted)) first
          ∙ ap (λ (l : List Posting). draws (length c.lines) c.first k (reverse l)) posted);
    }
