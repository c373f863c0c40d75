-- What couriers send in the end has one `End`, and all of it is taken.
use Rattle.std.proofs.Common.{◌≡◌, ℕ, zero, suc, ◌<◌, Bool, true, false, ◌||◌, List, [], ◌∷◌, length, map, Some, None}
use Rattle.std.proofs.Common.{refl, sym, ap, ◌∙◌, subst, arith, reverse, flat_map, get_or, if◌then◌else◌}
use Rattle.std.specs.List.{AllByRecursion}
use Rattle.std.proofs.lemmas.Grind.{reverse_onto}
use Rattle.gr_vector.specs.declared.report.Report.{Report}
use Rattle.gr_post.specs.declared.mail.Posting.{Posting}
use Rattle.gr_post.specs.Couriers.{Carrying, begun, passes_of, tables_of}
use Rattle.gr_post.specs.Mails.{IsClosed, has_end, is_end, of}
use Rattle.gr_post.specs.Passes.{Ring, Sending, Taking}
use Rattle.gr_value.specs.Drawing.{drawn}
use Rattle.gr_post.specs.Plan.{Draw, draws, is_named, number_after, number_before}
use Rattle.gr_post.proofs.Counting.{ends_once}
use Rattle.gr_world.specs.Served.{Called, Looked, Queried, Served}
use Rattle.gr_run_law.specs.Plans.{changes_posted, posted_by, posted_from}
use Rattle.gr_run_law.proofs.Lists.{all_append, all_flat}
use Rattle.gr_session.specs.Mailing.{HasSent, numbers_of}
use Rattle.gr_runner.specs.Kits.{IsCourierOf}
use Rattle.gr_runner.specs.Receipts.{AreTaken, ring_tables, send_tables}
use Rattle.gr_runner.proofs.Told.{same_at}

-- ---- no End is posted

abbrev pub NoneEnds : List Posting → Type 0
NoneEnds posted = AllByRecursion (λ (p : Posting). is_end p.mail ≡ false) posted

pub changes_end_nothing : (shards : ℕ) (served : List Served) → NoneEnds (changes_posted shards served)
changes_end_nothing shards served = all_flat (λ (p : Posting). is_end p.mail ≡ false) (posted_by shards) each served
  where
    each : (one : Served) → NoneEnds (posted_by shards one)
    each (Called number ask reply None to) = tt
    each (Called number ask reply (Some change) to) = (refl, tt)
    each (Queried number ask replies) = tt
    each (Looked number peek) = tt

round_ends_nothing : (to shard : ℕ) (reports : List Report) → NoneEnds (posted_from to shard reports)
round_ends_nothing to shard [] = tt
round_ends_nothing to shard (report ∷ reports) = (refl, round_ends_nothing to (suc shard) reports)

pub reports_end_nothing : (to : ℕ) (rounds : List (List Report)) → NoneEnds (flat_map (posted_from to 0) rounds)
reports_end_nothing to rounds = all_flat (λ (p : Posting). is_end p.mail ≡ false) (posted_from to 0) (round_ends_nothing to 0) rounds

all_turned : (posted : List Posting) → NoneEnds posted → NoneEnds (reverse posted)
all_turned [] none = tt
all_turned (p ∷ posted) none =
    subst NoneEnds (sym (reverse_onto posted p []))
    (all_append (λ (q : Posting). is_end q.mail ≡ false) (reverse posted) (p ∷ []) (all_turned posted none.1) (none.0, tt))

draws_end_nothing : (n first k : ℕ) (past : List Posting) → NoneEnds past → has_end (map (λ (d : Draw). d.mail) (draws n first k past)) ≡ false
draws_end_nothing n first k [] none = refl
draws_end_nothing n first k (p ∷ past) none = at_test (is_named p.to k) (draws_end_nothing n first k past none.1)
  where
    at_test : (b : Bool) → has_end (map (λ (d : Draw). d.mail) (draws n first k past)) ≡ false
        → has_end (map (λ (d : Draw). d.mail)
        (if b then (record { mail = p.mail; number = drawn (number_before (number_after n first past) p.to k) }) ∷ draws n first k past
        else draws n first k past)) ≡ false
    at_test true e = ap (λ (b : Bool). b || has_end (map (λ (d : Draw). d.mail) (draws n first k past))) none.0 ∙ e
    at_test false e = e

-- what a courier has sent to an inbox is closed
pub sent_closed : (c : Carrying) (posted : List Posting) (sends : List Sending) (k : ℕ) (d : Sending) → HasSent c posted sends
    → k < length c.lines → NoneEnds posted → IsClosed (get_or sends k d).sent
sent_closed c posted sends k d sent less none =
    subst IsClosed (sym (sent.sent k d less))
    (ends_once (draws (length c.lines) c.first k (reverse posted))
    (draws_end_nothing (length c.lines) c.first k (reverse posted) (all_turned posted none)))

-- ---- a courier at its beginning

begun_passes : (passes : List Sending) (first : ℕ) → passes_of (begun passes first) ≡ passes
begun_passes [] first = refl
begun_passes (p ∷ passes) first = ap (λ (l : List Sending). p ∷ l) (begun_passes passes first)

passes_are : (rings : List Ring) (place first : ℕ) (c : Carrying) (of : IsCourierOf rings place first c) → passes_of c ≡ of.passes
passes_are rings place first c of = ap passes_of of.carries ∙ begun_passes of.passes first

pub lines_many : (rings : List Ring) (place first : ℕ) (c : Carrying) → IsCourierOf rings place first c → length c.lines ≡ length rings
lines_many rings place first c of =
    ap (λ (x : Carrying). length x.lines) of.carries ∙ line_count of.passes ∙ of.its.many
  where
    line_count : (passes : List Sending) → length (begun passes first).lines ≡ length passes
    line_count [] = refl
    line_count (p ∷ passes) = ap (λ (n : ℕ). suc n) (line_count passes)

pub maps_same : {X Y Z : Type 0} (f : X → Z) (g : Y → Z) (xs : List X) (ys : List Y) → length xs ≡ length ys
    → ((k : ℕ) (x : X) (y : Y) → k < length xs → f (get_or xs k x) ≡ g (get_or ys k y)) → map f xs ≡ map g ys
maps_same f g [] [] e same = refl
maps_same f g [] (y ∷ ys) e same = absurd (omega (arith, e))
maps_same f g (x ∷ xs) [] e same = absurd (omega (arith, e))
maps_same {Z = Z} f g (x ∷ xs) (y ∷ ys) e same =
    ap (λ (z : Z). z ∷ map f xs) (same zero x y (omega arith))
    ∙ ap (λ (l : List Z). g y ∷ l) (maps_same f g xs ys (omega (arith, e)) (λ k a b l. same (suc k) a b (omega (arith, l))))

pub passes_many : (rings : List Ring) (place first : ℕ) (c : Carrying) → IsCourierOf rings place first c → length (passes_of c) ≡ length rings
passes_many rings place first c of = ap length (passes_are rings place first c of) ∙ of.its.many

-- it is of all inboxes
pub courier_tables : (rings : List Ring) (place first : ℕ) (c : Carrying) → IsCourierOf rings place first c → tables_of c ≡ ring_tables rings
courier_tables rings place first c of =
    ap (map (λ (p : Sending). p.table)) (passes_are rings place first c of)
    ∙ maps_same (λ (p : Sending). p.table) (λ (r : Ring). r.table) of.passes rings of.its.many
    (λ k d r l. ap (λ (p : Sending). p.table) (of.its.each k r d (let many = of.its.many in omega (arith, l, many))))

-- what it has sent is to all inboxes
pub sent_tables : (rings : List Ring) (place first : ℕ) (c : Carrying) (posted : List Posting) (sends : List Sending)
    → IsCourierOf rings place first c → HasSent c posted sends → send_tables sends ≡ ring_tables rings
sent_tables rings place first c posted sends of sent =
    sent.tables ∙ courier_tables rings place first c of

-- and by the passes of its place
sent_number : (rings : List Ring) (place first : ℕ) (c : Carrying) (posted : List Posting) (sends : List Sending) (k : ℕ) (d : Sending)
    (r : Ring) → IsCourierOf rings place first c → HasSent c posted sends → k < length rings → (get_or sends k d).number ≡ place
sent_number rings place first c posted sends k d r of sent less =
    let count = lines_many rings place first c of in
    let many = sent.many in
    same_at (λ (p : Sending). p.number) (λ (p : Sending). p.number) sends of.passes k d d
    (sent.numbers ∙ ap numbers_of (passes_are rings place first c of)) (omega (arith, less, count, many))
    ∙ ap (λ (p : Sending). p.number) (of.its.each k r d less)

-- ---- what was taken

-- All was taken that a sender's courier sent, where an `End` of it was taken.
pub all_of_sender : (rings : List Ring) (place first : ℕ) (c : Carrying) (posted : List Posting) (sends : List Sending) (takes : List Taking)
    (k : ℕ) (t : Taking) (d : Sending) → IsCourierOf rings place first c → HasSent c posted sends → NoneEnds posted → AreTaken takes sends
    → k < length rings → has_end (of place (get_or takes k t).taken) ≡ true
    → of place (get_or takes k t).taken ≡ (get_or sends k d).sent
all_of_sender rings place first c posted sends takes k t d its sent none taken less ended =
    let ring : Ring = record { table = (get_or sends k d).table; capacity = 0 } in
    let number = sent_number rings place first c posted sends k d ring its sent less in
    let count = lines_many rings place first c its in
    let many = sent.many in
    subst (λ (n : ℕ). of n (get_or takes k t).taken ≡ (get_or sends k d).sent) number
    (taken k t d (omega (arith, less, count, many))
    (sent_closed c posted sends k d sent (omega (arith, less, count)) none)
    (subst (λ (n : ℕ). has_end (of n (get_or takes k t).taken) ≡ true) (sym number) ended))
