-- Every founder and every member that joined took in all changes.
use Rattle.std.proofs.Common.{◌≡◌, ◌≢◌, ℕ, ◌+◌, ◌-◌, ◌<◌, ◌≤◌, ◌⊎◌, ◌==◌, ◌&&◌, ◌||◌, not, Bool, true, false}
use Rattle.std.proofs.Common.{List, [], ◌∷◌, length, Some, None}
use Rattle.std.proofs.Common.{refl, sym, ap, ◌∙◌, subst, arith, inl, inr, ⊎_elim, reverse, filter, if◌then◌else◌, cond, ne_eqb}
use Rattle.std.proofs.Common.{eqb-true}
use Rattle.std.specs.Prelude.{nat_le, count_by, get_or}
use Rattle.std.proofs.lemmas.Bool.Decides.{nat_tests}
use Rattle.std.proofs.lemmas.List.{reverse-reverse}
use native.Mathlib.Decide.{ℕ_discrete}
use mathlib.Core.Logic.{dite}
use Rattle.gr_value.specs.Shard.{shard_of}
use Rattle.gr_stamp.specs.declared.change.Change.{Change}
use Rattle.gr_vector.specs.Ids.{has_id, is_same_id}
use Rattle.gr_vector.proofs.Order.{same_id_itself}
use Rattle.gr_history.specs.declared.ask.Ask.{Ask}
use Rattle.gr_history.specs.declared.reply.Reply.{Reply}
use Rattle.gr_history.specs.declared.query_reply.QueryReply.{QueryReply}
use Rattle.gr_history.specs.declared.query_reply.QueryReply.TheVariants.{Unknown}
use Rattle.gr_history.specs.declared.image.Image.{Image}
use Rattle.gr_history.specs.declared.record.ClientRecord.{ClientRecord}
use Rattle.gr_history.specs.declared.image.What.{What}
use Rattle.gr_history.specs.declared.image.What.TheVariants as what
use Rattle.gr_history.specs.declared.deed.Deed.{Deed}
use Rattle.gr_history.specs.declared.deed.Deed.TheVariants.{Call, Asked, Taken, Gave, Imaged, Reported, Heard, Swept}
use Rattle.gr_history.specs.Asks.{key_of, told}
use Rattle.gr_history.specs.Deeds.{is_of_client}
use Rattle.gr_history.specs.Gifts.{own_changes}
use Rattle.gr_history.specs.Ids.{id_of, ids}
use Rattle.gr_history.specs.Lawful.{IsLawfulDeed}
use Rattle.gr_history.specs.Made.{made, made_at}
use Rattle.gr_history.specs.Recipients.{gave_to, is_recipient}
use Rattle.gr_law.specs.Grids.{Among, Older, Grid, identity}
use Rattle.gr_law.specs.Integrity.{IsMade, IsGenuine, IsGenuineDeed, IsGift, giver_of}
use Rattle.gr_law.proofs.Images.{among_filter_map, filter_map_has}
use Rattle.gr_law.proofs.Lists.{among_left, among_right, among_reverse, filter_keeps, known_ids}
use Rattle.gr_law.proofs.Made.{older_itself, older_lawful, made_known, older_made}
use Rattle.gr_law.proofs.Settled.{known_took}
use Rattle.gr_post.specs.declared.mail.Mail.TheVariants as mail
use Rattle.gr_post.specs.declared.mail.Posting.{Posting}
use Rattle.gr_post.specs.Plan.{is_named, first_number}
use Rattle.gr_post.specs.Laws.{owed}
use Rattle.gr_post.proofs.Counting.{draws_mails}
use Rattle.gr_script.specs.declared.line.Line.{Line}
use Rattle.gr_script.specs.declared.line.Line.TheVariants as line
use Rattle.gr_script.specs.Rules.{Heading, IsMember, IsStated, IsScript, home_of}
use Rattle.gr_script.specs.Steps.{joins_of, is_join_of}
use Rattle.gr_world.specs.Grids.{Histories, grid_from}
use Rattle.gr_world.specs.Served.{Served, Called, Queried, Looked, deeds_of}
use Rattle.gr_law.proofs.Joiners.{older_among}
use Rattle.gr_run_law.specs.Duties.{Reports, Sweeps, Joins, duty_in, duty_of, gift_in, gift_due, given_to, own_where}
use Rattle.gr_run_law.specs.Plans.{total_to, draws_for, brings_change, changes_posted, posted_by}
use Rattle.gr_run_law.specs.Runs.{IsRun}
use Rattle.gr_run_law.specs.Closed.{EndsReady, TakesAll}
use Rattle.gr_run_law.proofs.Lists.{true_false, count_cons, same_number, none_isnt_some, same_in_some, no_item}
use Rattle.gr_run_law.proofs.Delivering.{map_among}
use Rattle.gr_run_law.proofs.Integrity.{made_key, among_older, among_flat, flat_among}
use Rattle.gr_run_law.proofs.Known.{total_at, among_count, owed_some, ids_among, counted_known}
use Rattle.gr_run_law.proofs.Recipients.{bit_set, made_to_all}

-- ---- gifts before and behind

gave_among : (joiner : ℕ) (gave : What) (q h : List Deed) → Older (Gave joiner gave ∷ q) h → gave_to joiner h ≡ true
gave_among joiner gave q [] o = absurd (no_item (Gave joiner gave) q o)
gave_among joiner gave q (first ∷ past) (inl is) =
    subst (λ z. gave_to joiner z ≡ true) is (rw (same_number joiner) refl)
gave_among joiner gave q (Call client to seq ask reply own ∷ past) (inr o) = gave_among joiner gave q past o
gave_among joiner gave q (Asked client seq ask reply ∷ past) (inr o) = gave_among joiner gave q past o
gave_among joiner gave q (Taken change verdict ∷ past) (inr o) = gave_among joiner gave q past o
gave_among joiner gave q (Gave to other ∷ past) (inr o) = rw (gave_among joiner gave q past o) (or_true (to == joiner))
  where
    or_true : (b : Bool) → (b || true) ≡ true
    or_true true = refl
    or_true false = refl
gave_among joiner gave q (Imaged image ∷ past) (inr o) = gave_among joiner gave q past o
gave_among joiner gave q (Reported report ∷ past) (inr o) = gave_among joiner gave q past o
gave_among joiner gave q (Heard report ∷ past) (inr o) = gave_among joiner gave q past o
gave_among joiner gave q (Swept moment expired ∷ past) (inr o) = gave_among joiner gave q past o

-- What was made before anything was given to a member was made before its gift.
before_gift : (change : Change) (deed : Deed) (past : List Deed) (joiner : ℕ) (gave : What) (q h : List Deed)
    → Among change (made_at deed) → gave_to joiner past ≡ false → Older (deed ∷ past) h → Older (Gave joiner gave ∷ q) h
    → Among change (made q)
before_gift change deed past joiner gave q [] m none o p = absurd (no_item deed past o)
before_gift change deed past joiner gave q (first ∷ rest) m none (inl is) (inl too) =
    absurd (subst (λ d. Among change (made_at d)) (heads deed (Gave joiner gave) past q (is ∙ sym too)) m)
  where
    heads : (a b : Deed) (xs ys : List Deed) → a ∷ xs ≡ b ∷ ys → a ≡ b
    heads a b xs ys e = cc
before_gift change deed past joiner gave q (first ∷ rest) m none (inl is) (inr p) =
    absurd (true_false (sym (gave_among joiner gave q past (subst (Older (Gave joiner gave ∷ q)) (sym (tails deed first past rest is)) p))
    ∙ none))
  where
    tails : (a b : Deed) (xs ys : List Deed) → a ∷ xs ≡ b ∷ ys → xs ≡ ys
    tails a b xs ys e = cc
before_gift change deed past joiner gave q (first ∷ rest) m none (inr o) (inl too) =
    let t = tails (Gave joiner gave) first q rest too in
    older_made change (deed ∷ past) q (subst (Older (deed ∷ past)) (sym t) o) (among_left change (made_at deed) (made past) m)
  where
    tails : (a b : Deed) (xs ys : List Deed) → a ∷ xs ≡ b ∷ ys → xs ≡ ys
    tails a b xs ys e = cc
before_gift change deed past joiner gave q (first ∷ rest) m none (inr o) (inr p) =
    before_gift change deed past joiner gave q rest m none o p

-- a gift of own changes has what was made before it
own_given : (change : Change) (joiner : ℕ) (q h : List Deed) → Older (Gave joiner what.Own ∷ q) h → Among change (made q)
    → Among change (given_to joiner h)
own_given change joiner q [] o m = absurd (no_item (Gave joiner what.Own) q o)
own_given change joiner q (first ∷ past) (inl is) m =
    subst (λ z. Among change (given_to joiner z)) is
    (among_right change (given_to joiner q) (own_where (joiner == joiner) what.Own (own_changes q))
    (rw (same_number joiner) (turned change (made q) m)))
  where
    turned : (c : Change) (xs : List Change) → Among c xs → Among c (reverse xs)
    turned c xs b = among_reverse c (reverse xs) (subst (Among c) (sym (reverse-reverse xs)) b)
own_given change joiner q (Call client to seq ask reply own ∷ past) (inr o) m = own_given change joiner q past o m
own_given change joiner q (Asked client seq ask reply ∷ past) (inr o) m = own_given change joiner q past o m
own_given change joiner q (Taken one verdict ∷ past) (inr o) m = own_given change joiner q past o m
own_given change joiner q (Gave to other ∷ past) (inr o) m =
    among_left change (given_to joiner past) (own_where (to == joiner) other (own_changes past)) (own_given change joiner q past o m)
own_given change joiner q (Imaged image ∷ past) (inr o) m = own_given change joiner q past o m
own_given change joiner q (Reported report ∷ past) (inr o) m = own_given change joiner q past o m
own_given change joiner q (Heard report ∷ past) (inr o) m = own_given change joiner q past o m
own_given change joiner q (Swept moment expired ∷ past) (inr o) m = own_given change joiner q past o m

-- ---- what is found of a made change, of a gift, and of a join

pub record IsMadeBy (change : Change) (h : List Deed) : Type 0 where
  pub client : ℕ
  pub to : ℕ
  pub number : ℕ
  pub ask : Ask
  pub reply : Reply
  pub past : List Deed
  pub older : Older (Call client to number ask reply (Some change) ∷ past) h

longer_by : (change : Change) (first : Deed) (h : List Deed) → IsMadeBy change h → IsMadeBy change (first ∷ h)
longer_by change first h by = record {
  client = by.client;
  to = by.to;
  number = by.number;
  ask = by.ask;
  reply = by.reply;
  past = by.past;
  older = inr by.older;
}

made_call : (change : Change) (h : List Deed) → Among change (made h) → IsMadeBy change h
made_call change [] a = absurd a
made_call change (Call client to number ask reply None ∷ past) a =
    longer_by change (Call client to number ask reply None) past (made_call change past a)
made_call change (Call client to number ask reply (Some own) ∷ past) (inl is) = record {
  client = client;
  to = to;
  number = number;
  ask = ask;
  reply = reply;
  past = past;
  older = inl (ap (λ c. Call client to number ask reply (Some c) ∷ past) is);
}
made_call change (Call client to number ask reply (Some own) ∷ past) (inr a) =
    longer_by change (Call client to number ask reply (Some own)) past (made_call change past a)
made_call change (Asked client number ask reply ∷ past) a = longer_by change (Asked client number ask reply) past (made_call change past a)
made_call change (Taken own verdict ∷ past) a = longer_by change (Taken own verdict) past (made_call change past a)
made_call change (Gave to gave ∷ past) a = longer_by change (Gave to gave) past (made_call change past a)
made_call change (Imaged image ∷ past) a = longer_by change (Imaged image) past (made_call change past a)
made_call change (Reported report ∷ past) a = longer_by change (Reported report) past (made_call change past a)
made_call change (Heard report ∷ past) a = longer_by change (Heard report) past (made_call change past a)
made_call change (Swept moment expired ∷ past) a = longer_by change (Swept moment expired) past (made_call change past a)

gift_is : (joiner : ℕ) (d : Deed) (w : What) → gift_in joiner d ≡ Some w → d ≡ Gave joiner w
gift_is joiner (Call client to number ask reply own) w e = absurd (none_isnt_some w e)
gift_is joiner (Asked client number ask reply) w e = absurd (none_isnt_some w e)
gift_is joiner (Taken own verdict) w e = absurd (none_isnt_some w e)
gift_is joiner (Gave to gave) w e = at_test (to == joiner) refl e
  where
    at_test : (b : Bool) → (to == joiner) ≡ b → (if b then Some gave else None) ≡ Some w → Gave to gave ≡ Gave joiner w
    at_test true f e = ap (λ t. Gave t gave) (eqb-true to joiner f) ∙ ap (λ x. Gave joiner x) (same_in_some gave w e)
    at_test false f e = absurd (none_isnt_some w e)
gift_is joiner (Imaged image) w e = absurd (none_isnt_some w e)
gift_is joiner (Reported report) w e = absurd (none_isnt_some w e)
gift_is joiner (Heard report) w e = absurd (none_isnt_some w e)
gift_is joiner (Swept moment expired) w e = absurd (none_isnt_some w e)

join_is : (d : Deed) (provider : ℕ) → duty_in d ≡ Some (Joins provider) → (image : Image) × (d ≡ Imaged image) × (image.from ≡ provider)
join_is (Call client to number ask reply own) provider e = absurd (none_isnt_some (Joins provider) e)
join_is (Asked client number ask reply) provider e = absurd (none_isnt_some (Joins provider) e)
join_is (Taken own verdict) provider e = absurd (none_isnt_some (Joins provider) e)
join_is (Gave to gave) provider e = absurd (none_isnt_some (Joins provider) e)
join_is (Imaged image) provider e = (image, refl, from image.from provider e)
  where
    from : (a b : ℕ) → Some (Joins a) ≡ Some (Joins b) → a ≡ b
    from a b e = cc
join_is (Reported report) provider e = absurd (no e)
  where
    no : Some Reports ≡ Some (Joins provider) → ⊥
    no e = cc
join_is (Heard report) provider e = absurd (none_isnt_some (Joins provider) e)
join_is (Swept moment expired) provider e = absurd (no e)
  where
    no : Some (Sweeps moment) ≡ Some (Joins provider) → ⊥
    no e = cc

pub join_line : (member : ℕ) (lines : List Line) → joins_of member lines ≢ 0 → (provider : ℕ) × Among (line.Join member provider) lines
join_line member [] some = absurd (some refl)
join_line member (first ∷ lines) some = at_line first (λ more. join_line member lines more) some
  where
    later : (l : Line) → is_join_of member l ≡ false
        → (joins_of member lines ≢ 0 → (provider : ℕ) × Among (line.Join member provider) lines)
        → joins_of member (l ∷ lines) ≢ 0 → (provider : ℕ) × Among (line.Join member provider) (l ∷ lines)
    later l isnt next some =
        let c = count_cons (is_join_of member) l lines in
        let z : cond {A = ℕ} (is_join_of member l) 1 0 ≡ 0 = rw isnt refl in
        let r = next (λ none. some (let k : joins_of member (l ∷ lines) ≡ 0 = omega arith in k)) in (r.0, inr r.1)

    at_join : (joiner provider : ℕ) (b : Bool) → (joiner == member) ≡ b
        → (joins_of member lines ≢ 0 → (p : ℕ) × Among (line.Join member p) lines)
        → joins_of member (line.Join joiner provider ∷ lines) ≢ 0 → (p : ℕ) × Among (line.Join member p) (line.Join joiner provider ∷ lines)
    at_join joiner provider true e next some = (provider, inl (ap (λ j. line.Join j provider) (sym (eqb-true joiner member e))))
    at_join joiner provider false e next some = later (line.Join joiner provider) e next some

    at_line : (l : Line) → (joins_of member lines ≢ 0 → (provider : ℕ) × Among (line.Join member provider) lines)
        → joins_of member (l ∷ lines) ≢ 0 → (provider : ℕ) × Among (line.Join member provider) (l ∷ lines)
    at_line (line.Step client number act) next some = later (line.Step client number act) refl next some
    at_line (line.Deliver to client number) next some = later (line.Deliver to client number) refl next some
    at_line (line.Report own) next some = later (line.Report own) refl next some
    at_line (line.Hear by own number) next some = later (line.Hear by own number) refl next some
    at_line (line.Sweep own moment) next some = later (line.Sweep own moment) refl next some
    at_line (line.Depart own) next some = later (line.Depart own) refl next some
    at_line (line.Leave client moment) next some = later (line.Leave client moment) refl next some
    at_line (line.Back client moment) next some = later (line.Back client moment) refl next some
    at_line (line.Join joiner provider) next some = at_join joiner provider (joiner == member) refl next some

genuine_at : (grid : Grid) (me : ℕ) (d : Deed) (h : List Deed) → IsGenuine grid me h → Among d h → IsGenuineDeed grid me d
genuine_at grid me d [] all a = absurd a
genuine_at grid me d (first ∷ past) all (inl is) = subst (IsGenuineDeed grid me) (sym is) all.0
genuine_at grid me d (first ∷ past) all (inr a) = genuine_at grid me d past all.1 a

to_reverse : {A : Type 0} (x : A) (xs : List A) → Among x xs → Among x (reverse xs)
to_reverse x xs a = among_reverse x (reverse xs) (subst (Among x) (sym (reverse-reverse xs)) a)

not_given : (x y z : Bool) → ((x || y) && not z) ≡ false → z ≡ false → (x ≡ false) × (y ≡ false)
not_given true y false h e = absurd (true_false h)
not_given false true false h e = absurd (true_false h)
not_given false false false h e = (refl, refl)
not_given x y true h e = absurd (true_false e)

not_founder : (a b : ℕ) → nat_le a b ≡ false → a ≤ b → ⊥
not_founder a b h le = grind (arith, nat_tests)

-- ---- closed

-- what a step of the client that left this deed has its courier carry
step_posted : (client shards shard to number : ℕ) (ask : Ask) (reply : Reply) (change : Change) (w : Served)
    → change.key ≡ key_of ask
    → Among (Call client to number ask reply (Some change)) (deeds_of client shards shard w)
    → (shard ≡ shard_of change.key shards)
    × Among (record { mail = mail.Change (shard_of change.key shards) change; to = to }) (posted_by shards w)
step_posted client shards shard to number ask reply change (Called own asked told made gone) key a =
    at_test (shard == shard_of (key_of asked) shards) refl a
  where
    One : Type 0
    One = (shard ≡ shard_of change.key shards)
        × Among (record { mail = mail.Change (shard_of change.key shards) change; to = to })
        (posted_by shards (Called own asked told made gone))

    at_deed : shard ≡ shard_of (key_of asked) shards → Call client to number ask reply (Some change)
        ≡ Call client gone own asked told made → One
    at_deed here e =
        let same_made : Some change ≡ made = cc in
        let same_to : to ≡ gone = cc in
        let same_ask : ask ≡ asked = cc in (
          here ∙ ap (λ x. shard_of (key_of x) shards) (sym same_ask) ∙ ap (λ k. shard_of k shards) (sym key),
          subst (λ m. Among (record { mail = mail.Change (shard_of change.key shards) change; to = to })
              (posted_by shards (Called own asked told m gone))) same_made
              (inl (ap (λ t. let q : Posting = record { mail = mail.Change (shard_of change.key shards) change; to = t } in q) same_to)),
        )

    at_test : (b : Bool) → (shard == shard_of (key_of asked) shards) ≡ b
        → Among (Call client to number ask reply (Some change)) (if b then Call client gone own asked told made ∷ [] else []) → One
    at_test true f (inl is) = at_deed (eqb-true shard (shard_of (key_of asked) shards) f) is
    at_test true f (inr b) = absurd b
    at_test false f b = absurd b
step_posted client shards shard to number ask reply change (Queried own asked replies) key (inl is) =
    absurd (no (get_or replies shard Unknown) is)
  where
    no : (one : QueryReply) → Call client to number ask reply (Some change) ≡ Asked client own asked one → ⊥
    no one e = cc
step_posted client shards shard to number ask reply change (Queried own asked replies) key (inr a) = absurd a
step_posted client shards shard to number ask reply change (Looked own peek) key a = absurd a

module _ (heading : Heading) (lines : List Line) (histories : Histories) (clients : List ClientRecord) (head : IsScript heading lines)
    (r : IsRun heading lines histories clients) (member shard : ℕ) (is_in : EndsReady heading lines member)
    (within : shard < heading.shards)
    (change : Change) (is_made : IsMade (grid_from heading histories shard) change) where
  abbrev maker : ℕ
  maker = change.stamp.member

  abbrev Known : Type 0
  Known = has_id (id_of change) (ids (histories member shard)) ≡ true

  -- where it was taken in as often as once, it is known
  by_count : 1 ≤ total_to heading.members
      (λ giver. count_by (λ c. is_same_id (id_of c) (id_of change)) (given_to member (histories giver shard)))
      + total_to (length heading.clients) (λ client.
      owed (brings_change shard (λ c. is_same_id (id_of c) (id_of change)))
      (draws_for heading client member (changes_posted heading.shards (r.clients.served client))))
      → has_id (id_of change) (ids (histories member shard)) ≡ true
  by_count le = counted_known (id_of change) (histories member shard)
      (let e = r.takings member shard (λ c. is_same_id (id_of c) (id_of change)) is_in.0 within in omega arith)

  -- a gift that has it brings it
  by_gift : (giver : ℕ) → IsMember heading giver → Among change (given_to member (histories giver shard))
      → has_id (id_of change) (ids (histories member shard)) ≡ true
  by_gift giver is a =
      let one = among_count (λ c. is_same_id (id_of c) (id_of change)) change (given_to member (histories giver shard)) a
      (same_id_itself (id_of change)) in
      let all = total_at heading.members (λ g. count_by (λ c. is_same_id (id_of c) (id_of change)) (given_to member (histories g shard)))
      giver is.0 is.1 in
      by_count (omega arith)

  -- so does the courier of the client that made it, where it goes to the member
  by_mail : (client : ℕ) → IsStated client heading → (to : ℕ) → shard ≡ shard_of change.key heading.shards
      → is_named to (member - 1) ≡ true
      → Among (record { mail = mail.Change (shard_of change.key heading.shards) change; to = to })
      (changes_posted heading.shards (r.clients.served client))
      → has_id (id_of change) (ids (histories member shard)) ≡ true
  by_mail client stated to here named a =
      let m = mail.Change (shard_of change.key heading.shards) change in
      let q : Posting = record { mail = mail.Change (shard_of change.key heading.shards) change; to = to } in
      let posted = changes_posted heading.shards (r.clients.served client) in
      let kept = filter_keeps (λ (p : Posting). is_named p.to (member - 1)) q (reverse posted) named (to_reverse q posted a) in
      let drawn = subst (Among m) (sym (draws_mails heading.members (first_number heading.trouble client) (member - 1) (reverse posted)))
      (map_among (λ (p : Posting). p.mail) q (filter (λ (p : Posting). is_named p.to (member - 1)) (reverse posted)) kept) in
      let passes : brings_change shard (λ c. is_same_id (id_of c) (id_of change)) (mail.Change (shard_of change.key heading.shards) change)
      ≡ true =
      rw (← here, same_number shard) (same_id_itself (id_of change)) in
      let one = owed_some (brings_change shard (λ c. is_same_id (id_of c) (id_of change)))
      (draws_for heading client member posted) m drawn passes in
      let all = total_at (length heading.clients) (λ c. owed (brings_change shard (λ x. is_same_id (id_of x) (id_of change)))
      (draws_for heading c member (changes_posted heading.shards (r.clients.served c)))) client stated.0 stated.1 in
      by_count (omega arith)

  module _ (is_maker : IsMember heading maker) (other : maker ≢ member) (by : IsMadeBy change (histories maker shard)) where
    law : IsLawfulDeed (identity (grid_from heading histories shard) maker) heading.floor
        (Call by.client by.to by.number by.ask by.reply (Some change)) by.past
    law = (older_lawful (identity (grid_from heading histories shard) maker) heading.floor
        (Call by.client by.to by.number by.ask by.reply (Some change) ∷ by.past) (histories maker shard) by.older
        ((r.whole shard within).sound.lawful maker)).0

    stands : Among (Call by.client by.to by.number by.ask by.reply (Some change)) (histories maker shard)
    stands = older_among (Call by.client by.to by.number by.ask by.reply (Some change)) by.past (histories maker shard) by.older

    to_recipient : is_recipient (identity (grid_from heading histories shard) maker) by.past member ≡ true → Known
    to_recipient goes =
        let placed = r.clients.placed maker shard by.client by.number (Call by.client by.to by.number by.ask by.reply (Some change))
        within stands
        (rw (same_number by.client) refl) in
        let deed = Call by.client by.to by.number by.ask by.reply (Some change) in
        let at_home = subst (λ m. Among deed (histories m shard)) placed.1 stands in
        let filtered = filter_keeps (is_of_client by.client) deed (reverse (histories (home_of heading by.client) shard))
        (same_number by.client)
        (to_reverse deed (histories (home_of heading by.client) shard) at_home) in
        let w = among_flat (deeds_of by.client heading.shards shard) deed (r.clients.served by.client)
        (subst (Among deed) ((r.clients.each by.client placed.0).deeds shard within) filtered) in
        let p = step_posted by.client heading.shards shard by.to by.number by.ask by.reply change w.0
        (made_key (identity (grid_from heading histories shard) maker) heading.floor by.client by.to by.number by.ask
        by.reply change by.past law) w.2 in
        let to_is = made_to_all (identity (grid_from heading histories shard) maker) heading.floor by.client by.to
        by.number by.ask by.reply change by.past law in
        let named = subst (λ t. is_named t (member - 1) ≡ true) (sym to_is)
        (bit_set (identity (grid_from heading histories shard) maker) by.past member is_in.0.0
        (let m = head.heading.members.1 in let k = is_in.0.1 in omega arith) goes) in
        by_mail by.client placed.0 by.to p.0 named
        (flat_among (posted_by heading.shards) (record { mail = mail.Change (shard_of change.key heading.shards) change; to = by.to }) w.0
        (r.clients.served by.client) w.1 p.1)

    -- made before the member was given something
    before : (gave : What) (q : List Deed) → gave_to member by.past ≡ false → Older (Gave member gave ∷ q) (histories maker shard)
        → Among change (made q)
    before gave q none o = before_gift change (Call by.client by.to by.number by.ask by.reply (Some change)) by.past member gave q
        (histories maker shard)
        (inl refl) none by.older o

    by_image : (provider : ℕ) → gave_to member by.past ≡ false → Among (line.Join member provider) lines → maker ≡ provider
        → has_id (id_of change) (ids (histories member shard)) ≡ true
    by_image provider none joins same =
        let due = filter_map_has (duty_of member) (line.Join member provider) (Joins provider) lines joins (rw (same_number member) refl) in
        let found = among_filter_map duty_in (Joins provider) (reverse (histories member shard))
        (subst (Among (Joins provider)) (sym (r.duties member shard is_in.0 within)) due) in
        let image = join_is found.0 provider found.2 in
        let stood = among_reverse found.0 (histories member shard) found.1 in
        let merged : Among (Imaged image.0) (histories member shard) = subst (λ d. Among d (histories member shard)) image.1 stood in
        let gift : IsGift (grid_from heading histories shard) member image.0 =
        (genuine_at (grid_from heading histories shard) member (Imaged image.0) (histories member shard)
        ((r.whole shard within).sound.genuine member) merged).1 in
        let q = giver_of (grid_from heading histories shard) image.0 in
        let from : image.0.from ≡ maker = image.2 ∙ sym same in
        let made_ = before what.Image q none (subst (λ g. Older (Gave member what.Image ∷ q) (histories g shard)) from gift.gave) in
        let known = known_ids image.0.vector.ids q gift.is_image.vector_is (id_of change) in
        ids_among (id_of change) (Imaged image.0) (histories member shard) merged (known ∙ made_known change q made_)

    to_joiner : is_recipient (identity (grid_from heading histories shard) maker) by.past member ≡ false
        → has_id (id_of change) (ids (histories member shard)) ≡ true
    to_joiner isnt = at_member is_in.1
      where
        both : (nat_le member heading.founders ≡ false) × (gave_to member by.past ≡ false)
        both = not_given (nat_le member heading.founders) (gave_to member by.past) (member == maker) isnt
            (ne_eqb member maker (λ e. other (sym e)))

        at_provider : (provider : ℕ) → Among (line.Join member provider) lines → (b : Bool) → (maker == provider) ≡ b
            → has_id (id_of change) (ids (histories member shard)) ≡ true
        at_provider provider joins true e = by_image provider both.1 joins (eqb-true maker provider e)
        at_provider provider joins false e =
            let due = filter_map_has (gift_due maker member) (line.Join member provider) what.Own lines joins
            (rw (same_number member, ne_eqb maker member other, e) refl) in
            let found = among_filter_map (gift_in member) what.Own (reverse (histories maker shard))
            (subst (Among what.Own) (sym (r.gifts maker member shard is_maker within)) due) in
            let stood : Among (Gave member what.Own) (histories maker shard) =
            subst (λ d. Among d (histories maker shard)) (gift_is member found.0 what.Own found.2)
            (among_reverse found.0 (histories maker shard) found.1) in
            let o = among_older (Gave member what.Own) (histories maker shard) stood in
            by_gift maker is_maker (own_given change member o.0 (histories maker shard) o.1 (before what.Own o.0 both.1 o.1))

        at_member : (member ≤ heading.founders) ⊎ (joins_of member lines ≢ 0) → has_id (id_of change) (ids (histories member shard)) ≡ true
        at_member (inl founder) = absurd (not_founder member heading.founders both.0 founder)
        at_member (inr joins) = let j = join_line member lines joins in at_provider j.0 j.1 (maker == j.0) refl

  pub known_there : has_id (id_of change) (ids (histories member shard)) ≡ true
  known_there = at_outside ((r.whole shard within).sound.outside maker)
    where
      either : (b : Bool) → (b ≡ true) ⊎ (b ≡ false)
      either true = inl refl
      either false = inr refl

      at_outside : ((1 ≤ change.stamp.member) × (change.stamp.member ≤ heading.members)) ⊎ (histories change.stamp.member shard ≡ [])
          → has_id (id_of change) (ids (histories member shard)) ≡ true
      at_outside (inr none) = absurd (subst (λ h. Among change (made h)) none is_made)
      at_outside (inl is) = dite (ℕ_discrete change.stamp.member member)
          (λ (e : change.stamp.member ≡ member). made_known change (histories member shard)
          (subst (λ m. Among change (made (histories m shard))) e is_made))
          (λ ne. ⊎_elim
          (λ goes. to_recipient is ne (made_call change (histories change.stamp.member shard) is_made) goes)
          (λ isnt. to_joiner is ne (made_call change (histories change.stamp.member shard) is_made) isnt)
          (either (is_recipient (identity (grid_from heading histories shard) change.stamp.member)
          (made_call change (histories change.stamp.member shard) is_made).past member)))

pub takes_all : (heading : Heading) (lines : List Line) (histories : Histories) (clients : List ClientRecord) → IsScript heading lines
    → IsRun heading lines histories clients → TakesAll heading lines histories
takes_all heading lines histories clients head r member shard is_in within change is_made =
    let sound = (r.whole shard within).sound in
    known_took (grid_from heading histories shard) sound member (histories member shard) (older_itself (histories member shard))
    (sound.lawful member) (sound.genuine member) change is_made
    (known_there heading lines histories clients head r member shard is_in within change is_made)
