-- The record of a run is what is left of its threads.
use Rattle.std.proofs.Common.{◌≡◌, ◌≢◌, ◌⊎◌, ℕ, suc, ◌+◌, ◌-◌, ◌<◌, ◌≤◌, ◌==◌, Bool, true, false, List, [], ◌∷◌, length, map, Option, Some, None}
use Rattle.std.proofs.Common.{refl, sym, ap, ◌∙◌, subst, arith, inl, inr, flat_map, get_or, if◌then◌else◌, eqb-true, eq-eqb, leb, length-append, ⊎_elim}
use Rattle.std.specs.Prelude.{cond, slice_get}
use Rattle.std.specs.List.{AllByRecursion, filter_map}
use Rattle.std.specs.Option.{option_to_list}
use Rattle.std.proofs.lemmas.Bool.Decides.{leb_tells}
use Rattle.std.proofs.lemmas.Option.{get_or_from_slice_get, slice_get-get_or, slice_get_within}
use Rattle.gr_turn.specs.Views.{times}
use Rattle.gr_history.specs.declared.record.MemberRecord.{MemberRecord}
use Rattle.gr_law.specs.Grids.{Among}
use Rattle.gr_law.proofs.Lists.{among_either, among_reverse}
use Rattle.gr_post.specs.declared.mail.Posted.{Posted}
use Rattle.gr_post.specs.Mails.{has_end, of}
use Rattle.gr_post.specs.Passes.{Ring, Sending, Taking}
use Rattle.gr_script.specs.declared.line.Line.{Line}
use Rattle.gr_script.specs.Rules.{Heading, IsMember, IsScript, IsStated, home_of}
use Rattle.gr_script.specs.Steps.{joins_of}
use Rattle.gr_world.specs.Numbered.{numbers_from}
use Rattle.gr_run_law.specs.Shares.{Client, Giver, Owner, Thread}
use Rattle.gr_run_law.specs.Threads.{IsLeftByThreads, client_place, member_place}
use Rattle.gr_run_law.proofs.Clients.{home_is_member}
use Rattle.gr_run_law.proofs.Delivering.{among_map, map_among}
use Rattle.gr_run_law.proofs.Integrity.{among_flat, flat_among}
use Rattle.gr_run_law.proofs.Lists.{among_get, get_some, same_in_some}
use Rattle.gr_value.specs.Lists.{StartsWith}
use Rattle.gr_member.specs.Fresh.{IsFresh, IsFreshSeat}
use Rattle.gr_member.specs.Left.{AreLeftBy}
use Rattle.gr_member.specs.Passes.{HaveAll, House}
use Rattle.gr_member.specs.Seats.{Place, nowhere}
use Rattle.gr_runner.specs.declared.gathering.Left.{Left}
use Rattle.gr_runner.specs.declared.gathering.News.{News}
use Rattle.gr_runner.specs.declared.gathering.News.TheVariants as news_of
use Rattle.gr_runner.specs.declared.slots.Slot.{Slot}
use Rattle.gr_runner.specs.Dealing.{dealt_at}
use Rattle.gr_runner.specs.Ending.{AreEnded}
use Rattle.gr_runner.specs.Gathering.{Knows, KnowsAll, left_at, seats_at}
use Rattle.gr_runner.specs.Gone.{HasGone}
use Rattle.gr_runner.specs.Left.{ClientLeft, HasMet, HostLeft, IsEnded, LeavesClient, LeavesHost, at_shard, places_left, visit_at}
use Rattle.gr_runner.specs.Makings.{passes_at, plan_of}
use Rattle.gr_runner.specs.Sorting.{take_in, told_in}
use Rattle.gr_runner.proofs.Found.{filter_first, get_among}
use Rattle.gr_runner.proofs.Joiners.{joiner_is}
use Rattle.gr_runner.proofs.Leaving.{lawful_record}
use Rattle.gr_runner.proofs.Lists.{all_among, all_places, numbered_behind, numbered_on}
use Rattle.gr_runner.proofs.Ran.{dealt_passes, fresh_at, slot_ran}
use Rattle.gr_runner.proofs.Shared.{client_there}
use Rattle.gr_runner.proofs.Told.{same_at, same_many}
use Rattle.gr_runner.proofs.Whole.{ClientFacts, HostFacts, all_clients, all_hosts}
use Rattle.gr_runner.proofs.Standing.{own_among, visit_among, stands_for}

one_time : (n : ℕ) → 0 < times n (n ∷ [])
one_time n = let e : cond {A = ℕ} (n == n) 1 0 ≡ 1 = ap (λ (b : Bool). cond {A = ℕ} b 1 0) (eq-eqb n n refl) in omega (arith, e)

module _ (h : Heading) (lines : List Line) (script : IsScript h lines) (houses : List House) (rings : List Ring)
    (desks : List (List Place)) (news : List News) (g : HasGone h lines houses rings desks news) where
  abbrev hosts : ℕ → HostLeft
  hosts m = (all_hosts h lines script houses rings desks news g).0 (m - 1)

  abbrev clients : ℕ → ClientLeft
  clients c = (all_clients h lines script houses rings desks news g).0 (c - 1)

  abbrev desk : ℕ → List Place
  desk m = get_or desks (m - 1) []

  back : (n : ℕ) → 1 ≤ n → suc (n - 1) ≡ n
  back n low = omega (arith, low)

  host_at : (m : ℕ) → IsMember h m → HostFacts h lines script houses rings desks news g (m - 1) (hosts m)
  host_at m is = let low = is.0 in let high = is.1 in
      (all_hosts h lines script houses rings desks news g).1 (m - 1) (omega (arith, low, high))

  client_at : (c : ℕ) → IsStated c h → ClientFacts h lines script houses rings desks news g (c - 1) (clients c)
  client_at c is = let low = is.0 in let high = is.1 in
      (all_clients h lines script houses rings desks news g).1 (c - 1) (omega (arith, low, high))

  below : (m : ℕ) → IsMember h m → m - 1 < h.members
  below m is = let low = is.0 in let high = is.1 in omega (arith, low, high)

  -- as many threads left something as there are members and clients
  lefts_many : length g.played.lefts ≡ h.members + length h.clients
  lefts_many =
      let a = same_many (λ (x : Left). Some x) (λ (x : Slot). x.left) g.played.lefts g.played.ran g.played.left_by in
      let b = g.played.all_ran in
      let c = ap length g.played.dealt_are.slots in
      let d = length-append g.played.dealt_are.of_members g.played.dealt_are.of_clients in
      let e = g.played.dealt_are.members_are.many in
      let e' = g.played.kits_are.members_many in
      let f = g.played.dealt_are.clients_are.many in
      let f' = g.played.kits_are.clients_many in
      omega (arith, a, b, c, d, e, e', f, f')

  -- the pass that was kept at a member, before and after all others were met into it
  abbrev first : ℕ → List Place
  first m = get_or g.played.dealt.desks.items (m - 1) []

  knows : (m : ℕ) → IsMember h m → KnowsAll (first m) (desk m) (flat_map (left_at (m - 1)) g.played.lefts)
  knows m is = let less = below m is in let many = g.played.dealt_are.desks in g.played.known.each (m - 1) [] (omega (arith, less, many))

  first_fresh : (m : ℕ) → IsMember h m → (number : ℕ)
      × IsFresh (get_or houses (m - 1) (record { plan = plan_of h (suc (m - 1)); locks = [] })) (passes_at h (suc (m - 1))) number (first m)
  first_fresh m is = fresh_at h lines script houses rings desks news g.played (m - 1) (below m is) (first m) (inl refl)

  first_seats : (m : ℕ) → IsMember h m → length (first m) ≡ h.shards
  first_seats m is =
      (first_fresh m is).1.its.many
      ∙ (g.played.made.each (m - 1) (record { plan = plan_of h (suc (m - 1)); locks = [] }) [] (below m is)).locks

  seats : (m : ℕ) → IsMember h m → length (desk m) ≡ h.shards
  seats m is = (knows m is).many ∙ first_seats m is

  -- what a pass knew that was left at a member
  known_of : (m shard : ℕ) (is : IsMember h m) → shard < h.shards → (left : Left) (p : List Place) → Among left g.played.lefts
      → Among p (left_at (m - 1) left) → StartsWith (at_shard (desk m) shard).view.seen (at_shard p shard).view.seen
  known_of m shard is less left p there among =
      let many = first_seats m is in
      all_among (λ (s : Place). StartsWith (at_shard (desk m) shard).view.seen s.view.seen)
      (seats_at shard (flat_map (left_at (m - 1)) g.played.lefts)) ((knows m is).each shard nowhere (omega (arith, less, many))).begins
      (at_shard p shard)
      (map_among (λ (q : List Place). get_or q shard nowhere) p (flat_map (left_at (m - 1)) g.played.lefts)
      (flat_among (left_at (m - 1)) p left g.played.lefts there among))

  met : (m shard : ℕ) → IsMember h m → shard < h.shards → HasMet h lines clients hosts m shard (at_shard (desk m) shard)
  met m shard is less = record {
    began = k.began ∙ ((first_fresh m is).1.fresh shard nowhere within).began;
    of_thread =
        let f = host_at m is in
        subst (λ (p : List Place). StartsWith (at_shard (desk m) shard).view.seen (at_shard p shard).view.seen) (sym f.pass_is)
        (known_of m shard is less f.left f.left.pass (get_among g.played.lefts (m - 1) f.left f.there) (own_among (m - 1) f.left f.home));
    of_client = λ client stated home.
        let f = client_at client stated in
        let low = stated.0 in
        let at : f.left.home ≡ m - 1 =
        f.home ∙ ap (λ (i : ℕ). home_of h i - 1) (back client low) ∙ ap (λ (i : ℕ). i - 1) (sym home) in
        subst (λ (p : List Place). StartsWith (at_shard (desk m) shard).view.seen (at_shard p shard).view.seen) (sym f.pass_is)
        (known_of m shard is less f.left f.left.pass (get_among g.played.lefts (h.members + (client - 1)) f.left f.there)
        (own_among (m - 1) f.left at));
    of_joiner = known_joiner;
    made = made;
  }
    where
      within : shard < length (first m)
      within = let many = first_seats m is in omega (arith, less, many)

      k : Knows (get_or (first m) shard nowhere) (at_shard (desk m) shard) (seats_at shard (flat_map (left_at (m - 1)) g.played.lefts))
      k = (knows m is).each shard nowhere within

      known_joiner : (joiner : ℕ) → joins_of joiner lines ≢ 0
          → StartsWith (at_shard (desk m) shard).view.seen (visit_at (hosts joiner) m shard).view.seen
      known_joiner joiner joins =
          let stated = (joiner_is h lines joiner script joins).1.stated in
          let f = host_at joiner stated in
          let low = stated.0 in
          let whole = f.whole (λ none. joins (ap (λ (i : ℕ). joins_of i lines) (sym (back joiner low)) ∙ none)) in
          let spot = below m is in
          let v : List Place = get_or f.left.visits.items (m - 1) [] in
          let there = slice_get-get_or f.left.visits.items (m - 1) [] (omega (arith, whole, spot)) in
          subst (λ (vs : List (List Place)). StartsWith (at_shard (desk m) shard).view.seen (at_shard (get_or vs (m - 1) []) shard).view.seen)
          (sym f.visits_is)
          (known_of m shard is less f.left v (get_among g.played.lefts (joiner - 1) f.left f.there) (visit_among (m - 1) f.left v there))

      -- a place of a member's thread
      of_member : (n i : ℕ) (left : Left) (q : List Place) → i < h.members → slice_get g.played.lefts i ≡ Some left
          → Among q (left_at (m - 1) left) → 0 < times n (at_shard q shard).view.made
          → (owner : Owner) × (0 < times n (places_left h lines clients hosts m shard owner))
      of_member n i left q few there among t =
          ⊎_elim at_visit at_home
          (among_either q (option_to_list (slice_get left.visits.items (m - 1))) (if left.home == m - 1 then left.pass ∷ [] else []) among)
        where
          F : HostFacts h lines script houses rings desks news g i ((all_hosts h lines script houses rings desks news g).0 i)
          F = (all_hosts h lines script houses rings desks news g).1 i few

          left_is : left ≡ F.left
          left_is = same_in_some left F.left (sym there ∙ F.there)

          spot : suc i - 1 ≡ i
          spot = omega arith

          at_visit : Among q (option_to_list (slice_get left.visits.items (m - 1)))
              → (owner : Owner) × (0 < times n (places_left h lines clients hosts m shard owner))
          at_visit a = (Giver (suc i), at_joins (joins_of (suc i) lines == 0) refl)
            where
              some_is : (o : Option (List Place)) → slice_get left.visits.items (m - 1) ≡ o → Among q (option_to_list o)
                  → slice_get left.visits.items (m - 1) ≡ Some q
              some_is None e b = absurd b
              some_is (Some v) e (inl is') = e ∙ ap (λ (x : List Place). Some x) (sym is')
              some_is (Some v) e (inr b) = absurd b

              visit_is : get_or left.visits.items (m - 1) [] ≡ q
              visit_is = get_or_from_slice_get left.visits.items (m - 1) q [] (some_is (slice_get left.visits.items (m - 1)) refl a)

              same_visit : get_or ((all_hosts h lines script houses rings desks news g).0 (suc i - 1)).visits (m - 1) [] ≡ q
              same_visit =
                  ap (λ (j : ℕ). get_or ((all_hosts h lines script houses rings desks news g).0 j).visits (m - 1) []) spot
                  ∙ ap (λ (vs : List (List Place)). get_or vs (m - 1) []) F.visits_is
                  ∙ ap (λ (l : Left). get_or l.visits.items (m - 1) []) (sym left_is) ∙ visit_is

              there_made : 0 < times n (at_shard (get_or ((all_hosts h lines script houses rings desks news g).0 (suc i - 1)).visits (m - 1) []) shard).view.made
              there_made = subst (λ (p : List Place). 0 < times n (at_shard p shard).view.made) (sym same_visit) t

              at_joins : (b : Bool) → (joins_of (suc i) lines == 0) ≡ b
                  → 0 < times n (if b then [] else (visit_at (hosts (suc i)) m shard).view.made)
              at_joins false e = there_made
              at_joins true e =
                  let low = is.0 in
                  let idle = F.idle (eqb-true (joins_of (suc i) lines) 0 e) (m - 1) shard (below m is) less in
                  let up : suc (m - 1) - 1 ≡ m - 1 = omega arith in
                  let none : (at_shard (get_or ((all_hosts h lines script houses rings desks news g).0 i).visits (m - 1) []) shard).view.made ≡ [] =
                  ap (λ (j : ℕ). (at_shard (get_or ((all_hosts h lines script houses rings desks news g).0 i).visits j []) shard).view.made) (sym up)
                  ∙ idle in
                  let moved : 0 < times n (at_shard (get_or ((all_hosts h lines script houses rings desks news g).0 i).visits (m - 1) []) shard).view.made =
                  subst (λ (j : ℕ). 0 < times n (at_shard (get_or ((all_hosts h lines script houses rings desks news g).0 j).visits (m - 1) []) shard).view.made)
                  spot there_made in
                  let zero_times : times n (at_shard (get_or ((all_hosts h lines script houses rings desks news g).0 i).visits (m - 1) []) shard).view.made
                  ≡ 0 = ap (times n) none in
                  absurd (omega (arith, moved, zero_times))

          at_home : Among q (if left.home == m - 1 then left.pass ∷ [] else [])
              → (owner : Owner) × (0 < times n (places_left h lines clients hosts m shard owner))
          at_home a = at_test (left.home == m - 1) refl a
            where
              at_test : (b : Bool) → (left.home == m - 1) ≡ b → Among q (if b then left.pass ∷ [] else [])
                  → (owner : Owner) × (0 < times n (places_left h lines clients hosts m shard owner))
              at_test false e b = absurd b
              at_test true e (inr b) = absurd b
              at_test true e (inl is') =
                  let own : i ≡ m - 1 =
                  sym F.home ∙ ap (λ (l : Left). l.home) (sym left_is) ∙ eqb-true left.home (m - 1) e in
                  let pass : ((all_hosts h lines script houses rings desks news g).0 (m - 1)).pass ≡ q =
                  ap (λ (j : ℕ). ((all_hosts h lines script houses rings desks news g).0 j).pass) (sym own) ∙ F.pass_is
                  ∙ ap (λ (l : Left). l.pass) (sym left_is) ∙ sym is' in
                  (Thread, subst (λ (p : List Place). 0 < times n (at_shard p shard).view.made) (sym pass) t)

      -- a place of a client's thread
      of_client : (n c : ℕ) (left : Left) (q : List Place) → c < length h.clients → slice_get g.played.lefts (h.members + c) ≡ Some left
          → Among q (left_at (m - 1) left) → 0 < times n (at_shard q shard).view.made
          → (owner : Owner) × (0 < times n (places_left h lines clients hosts m shard owner))
      of_client n c left q few there among t =
          ⊎_elim (λ a. absurd (no_visit a)) at_home
          (among_either q (option_to_list (slice_get left.visits.items (m - 1))) (if left.home == m - 1 then left.pass ∷ [] else []) among)
        where
          F : ClientFacts h lines script houses rings desks news g c ((all_clients h lines script houses rings desks news g).0 c)
          F = (all_clients h lines script houses rings desks news g).1 c few

          left_is : left ≡ F.left
          left_is = same_in_some left F.left (sym there ∙ F.there)

          no_visit : Among q (option_to_list (slice_get left.visits.items (m - 1))) → ⊥
          no_visit a = subst (λ (vs : List (List Place)). Among q (option_to_list (slice_get vs (m - 1))))
              (ap (λ (l : Left). l.visits.items) left_is ∙ F.none) a

          spot : suc c - 1 ≡ c
          spot = omega arith

          at_home : Among q (if left.home == m - 1 then left.pass ∷ [] else [])
              → (owner : Owner) × (0 < times n (places_left h lines clients hosts m shard owner))
          at_home a = at_test (left.home == m - 1) refl a
            where
              at_test : (b : Bool) → (left.home == m - 1) ≡ b → Among q (if b then left.pass ∷ [] else [])
                  → (owner : Owner) × (0 < times n (places_left h lines clients hosts m shard owner))
              at_test false e b = absurd b
              at_test true e (inr b) = absurd b
              at_test true e (inl is') =
                  let stated : IsStated (suc c) h = (omega arith, omega (arith, few)) in
                  let homed = home_is_member h script.heading (suc c) stated in
                  let own : home_of h (suc c) - 1 ≡ m - 1 =
                  sym F.home ∙ ap (λ (l : Left). l.home) (sym left_is) ∙ eqb-true left.home (m - 1) e in
                  let low = is.0 in
                  let lower = homed.0 in
                  let home : m ≡ home_of h (suc c) = omega (arith, own, low, lower) in
                  let pass : ((all_clients h lines script houses rings desks news g).0 (suc c - 1)).pass ≡ q =
                  ap (λ (j : ℕ). ((all_clients h lines script houses rings desks news g).0 j).pass) spot ∙ F.pass_is
                  ∙ ap (λ (l : Left). l.pass) (sym left_is) ∙ sym is' in (
                    Client (suc c),
                    subst (λ (b : Bool). 0 < times n (if b then (at_shard (clients (suc c)).pass shard).view.made else []))
                        (sym (client_there h m (suc c) stated home))
                        (subst (λ (p : List Place). 0 < times n (at_shard p shard).view.made) (sym pass) t),
                  )

      made : (n : ℕ) → 0 < times n (at_shard (desk m) shard).view.made
          → (owner : Owner) × (0 < times n (places_left h lines clients hosts m shard owner))
      made n t = ⊎_elim at_first at_left (k.made n t)
        where
          at_first : 0 < times n (get_or (first m) shard nowhere).view.made
              → (owner : Owner) × (0 < times n (places_left h lines clients hosts m shard owner))
          at_first f =
              let none : times n (get_or (first m) shard nowhere).view.made ≡ 0 =
              ap (times n) ((first_fresh m is).1.fresh shard nowhere within).made in absurd (omega (arith, f, none))

          at_left : (p : Place) × Among p (seats_at shard (flat_map (left_at (m - 1)) g.played.lefts)) × (0 < times n p.view.made)
              → (owner : Owner) × (0 < times n (places_left h lines clients hosts m shard owner))
          at_left p =
              let q = among_map (λ (x : List Place). get_or x shard nowhere) p.0 (flat_map (left_at (m - 1)) g.played.lefts) p.1 in
              let l = among_flat (left_at (m - 1)) q.0 g.played.lefts q.1 in
              let i = among_get l.0 g.played.lefts l.1 in
              let count : 0 < times n (at_shard q.0 shard).view.made =
              subst (λ (x : Place). 0 < times n x.view.made) q.2 p.2 in
              at_number i.0 l.0 q.0 i.1 l.2 count (leb_tells (suc i.0) h.members)
            where
              at_number : (i : ℕ) (left : Left) (q : List Place) → slice_get g.played.lefts i ≡ Some left → Among q (left_at (m - 1) left)
                  → 0 < times n (at_shard q shard).view.made
                  → ((leb (suc i) h.members ≡ true) × (suc i ≤ h.members)) ⊎ ((leb (suc i) h.members ≡ false) × (h.members < suc i))
                  → (owner : Owner) × (0 < times n (places_left h lines clients hosts m shard owner))
              at_number i left q there among count (inl few) = of_member n i left q few.1 there among count
              at_number i left q there among count (inr many) =
                  let more = many.1 in
                  let within' = slice_get_within g.played.lefts i left there in
                  let all = lefts_many in
                  let spot : h.members + (i - h.members) ≡ i = omega (arith, more) in
                  of_client n (i - h.members) left q (omega (arith, within', all, more))
                  (ap (slice_get g.played.lefts) spot ∙ there) among count

  -- ---- numbers

  have_all : (m : ℕ) → IsMember h m → HaveAll (desk m)
  have_all m is k s less n few =
      let house : House = record { plan = plan_of h (suc (m - 1)); locks = [] } in
      let made = g.played.made.each (m - 1) house [] (below m is) in
      let counted = (know.counted ∙ fresh_first.counted) in
      let many = made.many in
      let p = get_some (get_or g.played.passes (m - 1) []) n (omega (arith, few, counted, many)) in
      let fresh : IsFresh (get_or houses (m - 1) house) (passes_at h (suc (m - 1))) n p.0 =
      subst (IsFresh (get_or houses (m - 1) house) (passes_at h (suc (m - 1))) n)
      (get_or_from_slice_get (get_or g.played.passes (m - 1) []) n p.0 p.0 p.1) (made.fresh n p.0 (omega (arith, few, counted))) in
      let among : Among p.0 (dealt_passes h lines script houses rings desks news g.played (m - 1)) =
      among_reverse p.0 (dealt_passes h lines script houses rings desks news g.played (m - 1))
      (subst (Among p.0) (g.played.dealt_are.all (m - 1) [] [] (below m is)) (get_among (get_or g.played.passes (m - 1) []) n p.0 p.1)) in
      let its = fresh.its.many in
      let locks = made.locks in
      let long = seats m is in
      let there : k < length p.0 = omega (arith, its, locks, long, less) in
      at_dealt p.0 there (λ x. (fresh.fresh k x there).numbers) among
    where
      within : k < length (first m)
      within = let many = (knows m is).many in omega (arith, less, many)

      know : Knows (get_or (first m) k s) (get_or (desk m) k s) (seats_at k (flat_map (left_at (m - 1)) g.played.lefts))
      know = (knows m is).each k s within

      fresh_first : IsFreshSeat (passes_at h (suc (m - 1))) (first_fresh m is).0 (get_or (first m) k s)
      fresh_first = (first_fresh m is).1.fresh k s within

      at_dealt : (p : List Place) → k < length p → ((x : Place) → (get_or p k x).view.parts ≡ n ∷ [])
          → Among p (dealt_passes h lines script houses rings desks news g.played (m - 1)) → 0 < times n (get_or (desk m) k s).view.parts
      at_dealt p there number (inl is') =
          know.numbers_first n (subst (λ (ps : List ℕ). 0 < times n ps)
          (sym (ap (λ (y : List Place). (get_or y k s).view.parts) (sym is') ∙ number s)) (one_time n))
      at_dealt p there number (inr a) =
          let slot = among_flat (dealt_at (m - 1)) p g.played.dealt.slots.items a in
          let i = among_get slot.0 g.played.dealt.slots.items slot.1 in
          let ran = slot_ran h lines script houses rings desks news g.played i.0 slot.0 i.1 in
          let q = stands_for m slot.0.home ran.left p slot.0.worker ran.leaves slot.2 in
          all_among (λ (y : Place). (z : ℕ) → 0 < times z y.view.parts → 0 < times z (get_or (desk m) k s).view.parts)
          (seats_at k (flat_map (left_at (m - 1)) g.played.lefts)) know.numbers (at_shard q.q k)
          (map_among (λ (y : List Place). get_or y k nowhere) q.q (flat_map (left_at (m - 1)) g.played.lefts)
          (flat_among (left_at (m - 1)) q.q ran.left g.played.lefts (get_among g.played.lefts i.0 ran.left ran.left_there) q.among)) n
          (subst (λ (ps : List ℕ). 0 < times n ps) (sym (q.parts k nowhere there ∙ number nowhere)) (one_time n))

  -- ---- mail

  taken_at : (m : ℕ) (is : IsMember h m) (t : Taking) → (get_or g.takes (m - 1) t).taken ≡ (hosts m).taken
  taken_at m is t =
      let f = host_at m is in
      let there : slice_get (filter_map take_in news) (m - 1) ≡ Some f.take =
      filter_first take_in h.members (m - 1) news f.take each (below m is) (news_of.Member f.take f.sends) f.told refl in
      let within = slice_get_within (filter_map take_in news) (m - 1) f.take there in
      let many = same_many (λ (x : Taking). x.taken) (λ (x : Taking). x.taken) g.takes (filter_map take_in news) g.taken in
      same_at (λ (x : Taking). x.taken) (λ (x : Taking). x.taken) g.takes (filter_map take_in news) (m - 1) t t g.taken (omega (arith, within, many))
      ∙ ap (λ (x : Taking). x.taken) (get_or_from_slice_get (filter_map take_in news) (m - 1) f.take t there) ∙ sym f.taken_is
    where
      each : (i : ℕ) (x : News) → i < h.members → slice_get news i ≡ Some x → (b : Taking) × (take_in x ≡ Some b)
      each i x l e =
          let f = (all_hosts h lines script houses rings desks news g).1 i l in
          (f.take, ap take_in (same_in_some x (news_of.Member f.take f.sends) (sym e ∙ f.told)))

  ended_at : (m i : ℕ) (is : IsMember h m) (t : Taking) → i < length h.clients + h.members
      → has_end (of i (get_or g.takes (m - 1) t).taken) ≡ true
  ended_at m i is t l =
      let f = host_at m is in
      subst (λ (ps : List Posted). has_end (of i ps) ≡ true) (sym (taken_at m is t ∙ f.taken_is)) (f.ended i l)

  from_clients : (client member : ℕ) (d : Sending) → IsStated client h → IsMember h member
      → of (client_place client) (hosts member).taken ≡ (get_or (clients client).sends (member - 1) d).sent
  from_clients client member d stated is =
      let t = (host_at member is).take in
      let low = stated.0 in
      let high = stated.1 in
      let place : client_place (suc (client - 1)) ≡ client_place client = ap client_place (back client low) in
      ap (λ (ps : List Posted). of (client_place client) ps) (sym (taken_at member is t))
      ∙ ap (λ (i : ℕ). of i (get_or g.takes (member - 1) t).taken) (sym place)
      ∙ (client_at client stated).all (member - 1) t d (below member is)
      (ended_at member (client_place (suc (client - 1))) is t (omega (arith, place, low, high)))

  from_members : (other member : ℕ) (d : Sending) → IsMember h other → IsMember h member
      → of (member_place h other) (hosts member).taken ≡ (get_or (hosts other).sends (member - 1) d).sent
  from_members other member d stated is =
      let t = (host_at member is).take in
      let low = stated.0 in
      let high = stated.1 in
      let place : member_place h (suc (other - 1)) ≡ member_place h other = ap (member_place h) (back other low) in
      ap (λ (ps : List Posted). of (member_place h other) ps) (sym (taken_at member is t))
      ∙ ap (λ (i : ℕ). of i (get_or g.takes (member - 1) t).taken) (sym place)
      ∙ (host_at other stated).all (member - 1) t d (below member is)
      (ended_at member (member_place h (suc (other - 1))) is t (omega (arith, place, low, high)))

  -- ---- the record

  numbered : (records : List MemberRecord) → AreEnded houses desks records
      → map (λ (one : MemberRecord). one.member) records ≡ numbers_from 1 h.members (λ m. m)
  numbered records ended = numbered_on (λ (one : MemberRecord). one.member) 1 h.members records (ended.many ∙ g.played.made.many) each
    where
      each : (k : ℕ) (x : MemberRecord) → slice_get records k ≡ Some x → x.member ≡ 1 + k
      each k x there =
          let within = slice_get_within records k x there in
          let many = ended.many in
          let all = g.played.made.many in
          let house : House = record { plan = plan_of h (suc k); locks = [] } in
          let less : k < h.members = omega (arith, within, many, all) in
          let left = ended.each k house [] x (omega (arith, within, many)) in
          let next : suc k ≡ 1 + k = omega arith in
          ap (λ (r : MemberRecord). r.member) (sym (get_or_from_slice_get records k x x there)) ∙ left.member
          ∙ ap (λ p. p.member) (g.played.made.each k house [] less).plan_is ∙ next

  ended_each : (records : List MemberRecord) → AreEnded houses desks records → (m : ℕ) → IsMember h m → IsEnded h records m (desk m)
  ended_each records ended m is =
      let many = ended.many in
      let all = g.played.made.many in
      let spot = below m is in
      let one = get_some records (m - 1) (omega (arith, many, all, spot)) in
      let house : House = record { plan = plan_of h (suc (m - 1)); locks = [] } in
      let low = is.0 in
      let plan = (g.played.made.each (m - 1) house [] spot).plan_is ∙ ap (plan_of h) (back m low) in
      record {
        one = one.0;
        there = one.1;
        many = seats m is;
        all = have_all m is;
        left_by = subst (λ p. AreLeftBy p (desk m) one.0) plan
            (subst (AreLeftBy (get_or houses (m - 1) house).plan (desk m)) (get_or_from_slice_get records (m - 1) one.0 one.0 one.1)
            (ended.each (m - 1) house [] one.0 (omega (arith, spot, all))));
      }

  told : filter_map told_in news ≡ numbers_from 1 (length h.clients) (λ client. (clients client).told)
  told = numbered_behind told_in (λ client. (clients client).told) 1 h.members (length h.clients) news
      (same_many (λ (x : News). Some x) (λ (x : Left). x.news) news g.played.lefts g.played.told ∙ lefts_many) none some
    where
      none : (k : ℕ) (x : News) → k < h.members → slice_get news k ≡ Some x → told_in x ≡ None
      none k x l e =
          let f = (all_hosts h lines script houses rings desks news g).1 k l in
          ap told_in (same_in_some x (news_of.Member f.take f.sends) (sym e ∙ f.told))

      some : (k : ℕ) (x : News) → k < length h.clients → slice_get news (h.members + k) ≡ Some x
          → told_in x ≡ Some (clients (1 + k)).told
      some k x l e =
          let f = (all_clients h lines script houses rings desks news g).1 k l in
          let spot : k ≡ 1 + k - 1 = omega arith in
          ap told_in (same_in_some x (news_of.Client ((all_clients h lines script houses rings desks news g).0 k).told f.sends) (sym e ∙ f.told))
          ∙ ap (λ (i : ℕ). Some ((all_clients h lines script houses rings desks news g).0 i).told) spot

  -- at each member the pass that was kept has all numbers
  pub all_have : AllByRecursion HaveAll desks
  all_have = all_places HaveAll desks at
    where
      at : (k : ℕ) (p : List Place) → slice_get desks k ≡ Some p → HaveAll p
      at k p there =
          let within = slice_get_within desks k p there in
          let many = g.played.known.many in
          let all = g.played.dealt_are.desks in
          let back' : suc k - 1 ≡ k = omega arith in
          subst HaveAll (ap (λ (i : ℕ). get_or desks i []) back' ∙ get_or_from_slice_get desks k p [] there)
          (have_all (suc k) (omega arith, omega (arith, within, many, all)))

  pub run_lawful : (records : List MemberRecord) → AreEnded houses desks records
      → IsLeftByThreads h lines (record { members = records; clients = filter_map told_in news })
  run_lawful records ended = lawful_record h lines (record { members = records; clients = filter_map told_in news }) script (record {
    clients = clients;
    hosts = hosts;
    desks = desk;
    each_client = λ client stated.
        let low = stated.0 in
        subst (λ (i : ℕ). LeavesClient h lines i (clients client)) (back client low) (client_at client stated).leaves;
    each_host = λ member is.
        let low = is.0 in
        subst (λ (i : ℕ). LeavesHost h lines i (hosts member)) (back member low) (host_at member is).leaves;
    met = met;
    from_clients = from_clients;
    from_members = from_members;
    numbered = numbered records ended;
    ended = ended_each records ended;
    told = told;
  })
