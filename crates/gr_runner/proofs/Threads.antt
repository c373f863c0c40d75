-- What members' threads leave: what each was given is what the histories gave it.
use Rattle.std.proofs.Common.{◌≡◌, ◌≢◌, ◌⊎◌, ℕ, ◌<◌, ◌≤◌, Bool, true, false, List, [], ◌∷◌, ◌++◌, length, map, Option, None}
use Rattle.std.proofs.Common.{refl, sym, ap, ◌∙◌, subst, arith, inl, inr, reverse, flat_map, if◌then◌else◌, ne_eqb, append-nil, append_assoc}
use native.Mathlib.Decide.{ℕ_discrete}
use mathlib.Core.Logic.{dite}
use Rattle.std.specs.List.{AllByRecursion, filter_map}
use Rattle.std.proofs.lemmas.List.{reverse-append, reverse-reverse}
use Rattle.gr_history.specs.declared.deed.Deed.{Deed}
use Rattle.gr_history.specs.declared.deed.Deed.TheVariants.{Gave}
use Rattle.gr_history.specs.declared.image.Gift.{Gift}
use Rattle.gr_history.specs.declared.image.Gift.TheVariants as gift
use Rattle.gr_history.specs.declared.image.Image.{Image}
use Rattle.gr_history.specs.declared.image.What.{What}
use Rattle.gr_history.specs.declared.image.What.TheVariants as what
use Rattle.gr_history.specs.declared.record.Record.{Record}
use Rattle.gr_history.specs.Gifts.{IsGiftOf, IsImageOf, own_changes}
use Rattle.gr_law.specs.Grids.{Among, Older, at_place}
use Rattle.gr_law.specs.Integrity.{IsGift}
use Rattle.gr_law.proofs.Made.{older_past}
use Rattle.gr_script.specs.declared.line.Line.{Line}
use Rattle.gr_script.specs.Rules.{Heading, IsMember, IsScript}
use Rattle.gr_script.specs.Steps.{joins_of}
use Rattle.gr_world.specs.Grids.{grid_from}
use Rattle.gr_world.specs.Served.{all_deeds_of, histories_in}
use Rattle.gr_world.proofs.Peeks.{place_of}
use Rattle.gr_run_law.specs.Duties.{gift_due, gift_in, given_to, own_where}
use Rattle.gr_run_law.specs.Shares.{Client, Giver, Owner, Thread}
use Rattle.gr_run_law.specs.Threads.{IsThread, Merged, got_from}
use Rattle.gr_run_law.proofs.Delivering.{map_among}
use Rattle.gr_run_law.proofs.Growing.{given_once, no_gift}
use Rattle.gr_run_law.proofs.Lists.{all_at, all_map, filter_mapped, map_itself, same_number}
use Rattle.gr_run_law.proofs.Owners.{steps_all, works_all}
use Rattle.gr_run_law.proofs.Sharing.{GivesNone, one_owner}
use Rattle.gr_member.specs.Plans.{identity_of}
use Rattle.gr_host.specs.Joins.{changes_in, what_of}
use Rattle.gr_host.specs.Works.{IsGivenIn}
use Rattle.gr_runner.specs.Left.{AreLeft, IsGiver, LeavesHost, is_client_at, visit_at}
use Rattle.gr_runner.specs.Makings.{plan_of}
use Rattle.gr_runner.proofs.Ended.{history_of}
use Rattle.gr_runner.proofs.Joiners.{due_once, filter_turned, image_due, line_joins, none_due, own_due}
use Rattle.gr_runner.proofs.Lists.{all_among, older_front}
use Rattle.gr_runner.proofs.Shared.{from_desk, owned, places, shared_left}

all_if : (P : Deed → Type 0) (b : Bool) (xs : List Deed) → AllByRecursion P xs → AllByRecursion P (if b then xs else [])
all_if P true xs all = all
all_if P false xs all = tt

module _ (heading : Heading) (lines : List Line) (left : Record) (script : IsScript heading lines) (a : AreLeft heading lines left) where
  -- what a history gave a joiner is what was due
  gave_due : (giver joiner shard : ℕ) → IsMember heading giver → shard < heading.shards
      → filter_map (gift_in joiner) (reverse (histories_in left giver shard)) ≡ filter_map (gift_due giver joiner) lines
  gave_due giver joiner shard is less =
      one_owner f (reverse (histories_in left giver shard)) (owned heading lines left script a giver shard)
      (places heading lines left script a giver shard) (Giver joiner)
      (shared_left heading lines left script a giver shard is less) others
      ∙ filter_mapped f (λ what. Gave joiner what) (λ what. what) (λ what. rw (same_number joiner) refl)
      (filter_map (gift_due giver joiner) lines)
      ∙ map_itself (filter_map (gift_due giver joiner) lines)
    where
      f : Deed → Option What
      f = gift_in joiner

      none_of : (ds : List Deed) → AllByRecursion (λ d. f d ≡ None) ds → GivesNone f ds
      none_of ds all = all_at (λ d. f d ≡ None) ds all

      others : (other : Owner) → (other ≡ Giver joiner) ⊎ GivesNone f (owned heading lines left script a giver shard other)
      others (Client client) = inr (none_of (owned heading lines left script a giver shard (Client client))
          (all_if (λ d. f d ≡ None) (is_client_at heading giver client)
          (all_deeds_of client heading.shards shard (a.clients client).served)
          (steps_all client heading.shards shard (λ d. f d ≡ None)
          (record { calls = λ to n ask reply made. refl; asks = λ n ask reply. refl }) (a.clients client).served)))
      others Thread = inr (none_of (owned heading lines left script a giver shard Thread)
          (works_all heading.shards shard (λ d. f d ≡ None)
          (record { takes = λ c v. refl; hears = λ r. refl; reports = λ r. refl; sweeps = λ m e. refl; merges = λ i. refl })
          (a.hosts giver).works))
      others (Giver other) = dite (ℕ_discrete other joiner) (λ (e : other ≡ joiner). inl (ap (λ j. Giver j) e))
          (λ ne. inr (none_of (owned heading lines left script a giver shard (Giver other))
          (all_map (λ d. f d ≡ None) (λ what. Gave other what) (λ what. rw (ne_eqb other joiner ne) refl)
          (filter_map (gift_due giver other) lines))))

  gave_newest : (giver joiner shard : ℕ) → IsMember heading giver → shard < heading.shards
      → filter_map (gift_in joiner) (histories_in left giver shard) ≡ reverse (filter_map (gift_due giver joiner) lines)
  gave_newest giver joiner shard is less =
      sym (ap (filter_map (gift_in joiner)) (reverse-reverse (histories_in left giver shard)))
      ∙ filter_turned (gift_in joiner) (reverse (histories_in left giver shard))
      ∙ ap reverse (gave_due giver joiner shard is less)

  -- ---- one member's thread

  module _ (member : ℕ) (is : IsMember heading member) where
    host : LeavesHost heading lines member (a.hosts member)
    host = a.each_host member is

    abbrev gifts : ℕ → ℕ → List Gift
    gifts = (a.hosts member).gifts

    -- who was given something joins
    joins : (giver shard : ℕ) (g : Gift) (gs : List Gift) → IsGiver heading member giver → shard < heading.shards
        → gifts giver shard ≡ g ∷ gs → joins_of member lines ≢ 0
    joins giver shard g gs from less e none =
        let w = host.whats giver shard from less in
        absurd (no (map what_of gs) (sym (ap (map what_of) e) ∙ w ∙ none_due giver member lines none))
      where
        no : (ws : List What) → what_of g ∷ ws ≡ [] → ⊥
        no ws e = cc

    -- A gift of a member stands in its history, behind the deeds of which it is.
    record IsGivenAt (giver shard : ℕ) (given : Gift) : Type 0 where
      past : List Deed
      older : Older (Gave member (what_of given) ∷ past) (histories_in left giver shard)
      is_gift : IsGiftOf giver heading.floor past (what_of given) given

    given_at : (giver shard : ℕ) (given : Gift) → IsGiver heading member giver → shard < heading.shards → joins_of member lines ≢ 0
        → Among given (gifts giver shard) → IsGivenAt giver shard given
    given_at giver shard given from less some among =
        let h = history_of heading lines left a giver shard from.stated less in
        let view = (visit_at (a.hosts member) giver shard).view in
        let gave = host.gave giver shard from less some in
        let one : IsGivenIn (identity_of (plan_of heading giver) shard) heading.floor member view.seen given =
        all_among (IsGivenIn (identity_of (plan_of heading giver) shard) heading.floor member view.seen) (gifts giver shard) gave.each
        given among in
        let starts = from_desk heading lines left script a giver shard from.stated less view.seen
        ((a.met giver shard from.stated less).of_joiner member some) in
        record {
          past = reverse one.before;
          older = subst (Older (Gave member (what_of given) ∷ reverse one.before)) (sym h.history_is)
              (subst (λ (q : List Deed). Older q (reverse h.one.history.deeds))
              (reverse-append one.before (Gave member (what_of given) ∷ []))
              (older_front h.one.history.deeds (one.before ++ Gave member (what_of given) ∷ []) (
                one.begins.0 ++ starts.0,
                starts.1 ∙ ap (λ (l : List Deed). l ++ starts.0) one.begins.1
                    ∙ append_assoc (one.before ++ Gave member (what_of given) ∷ []) one.begins.0 starts.0,
              )));
          is_gift = one.is_gift;
        }

    own_gift : (given : Gift) (past : List Deed) (opening giver : ℕ) → IsGiftOf giver opening past (what_of given) given
        → changes_in given ≡ own_where true (what_of given) (own_changes past)
    own_gift (gift.Image image) past opening giver is = refl
    own_gift (gift.Own changes) past opening giver is = is

    -- what the thread took in of a member's gifts is what the member's history gave it
    given_left : (giver shard : ℕ) → IsMember heading giver → shard < heading.shards
        → filter_map (got_from heading.shards shard giver) (a.hosts member).works ≡ given_to member (histories_in left giver shard)
    given_left giver shard stated less = dite (ℕ_discrete giver member) own other
      where
        h : List Deed
        h = histories_in left giver shard

        own : giver ≡ member → filter_map (got_from heading.shards shard giver) (a.hosts member).works ≡ given_to member h
        own same =
            ap (λ (g : ℕ). filter_map (got_from heading.shards shard g) (a.hosts member).works) same ∙ host.not_own shard less
            ∙ sym (no_gift member h (gave_newest giver member shard stated less
            ∙ ap (λ (g : ℕ). reverse (filter_map (gift_due g member) lines)) same ∙ ap reverse (own_due member lines)))

        other : (giver ≡ member → ⊥) → filter_map (got_from heading.shards shard giver) (a.hosts member).works ≡ given_to member h
        other ne = host.got giver shard from less ∙ at_gifts (gifts giver shard) refl
          where
            from : IsGiver heading member giver
            from = record { stated = stated; other = ne }

            due : (gs : List Gift) → gifts giver shard ≡ gs → filter_map (gift_in member) h ≡ reverse (map what_of gs)
            due gs e = gave_newest giver member shard stated less
                ∙ ap reverse (sym (host.whats giver shard from less) ∙ ap (map what_of) e)

            at_gifts : (gs : List Gift) → gifts giver shard ≡ gs → flat_map changes_in (gifts giver shard) ≡ given_to member h
            at_gifts [] e = ap (flat_map changes_in) e ∙ sym (no_gift member h (due [] e))
            at_gifts (g ∷ []) e =
                let some = joins giver shard g [] from less e in
                let at = given_at giver shard g from less some (subst (Among g) (sym e) (inl refl)) in
                ap (flat_map changes_in) e ∙ append-nil (changes_in g) ∙ own_gift g at.past heading.floor giver at.is_gift
                ∙ sym (given_once member (what_of g) at.past h at.older (due (g ∷ []) e))
            at_gifts (g ∷ g' ∷ gs) e =
                let once = due_once heading lines giver member script in
                let same = ap length (sym (host.whats giver shard from less) ∙ ap (map what_of) e) in
                absurd (omega (arith, once, same))

    -- an image that was merged was given
    merged_left : (shard : ℕ) (image : Image) → Among (Merged shard image) (a.hosts member).works
        → (heading.founders < member) × IsGift (grid_from heading (histories_in left) shard) member image
    merged_left shard image among =
        let m = host.merged shard image among in
        let less = m.0 in
        let giver = m.1.0 in
        let from = m.1.1 in
        let due : Among what.Image (filter_map (gift_due giver member) lines) =
        subst (Among what.Image) (host.whats giver shard from less) (map_among what_of (gift.Image image) (gifts giver shard) m.1.2) in
        let line = line_joins heading lines member giver script (image_due giver member lines due) in
        let at = given_at giver shard (gift.Image image) from less (some giver due) m.1.2 in
        let is_image : IsImageOf giver heading.floor at.past image = at.is_gift in
        (line.behind, gift_is giver at.past (line.founder).1 at.older is_image)
      where
        some : (giver : ℕ) → Among what.Image (filter_map (gift_due giver member) lines) → joins_of member lines ≢ 0
        some giver due none = absurd (subst (Among what.Image) (none_due giver member lines none) due)

        gift_is : (giver : ℕ) (past : List Deed) → giver ≤ heading.founders
            → Older (Gave member what.Image ∷ past) (histories_in left giver shard) → IsImageOf giver heading.floor past image
            → IsGift (grid_from heading (histories_in left) shard) member image
        gift_is giver past few older image_is =
            let from : image.from ≡ giver = image_is.giver_is in
            let there : at_place image.at (histories_in left image.from shard) ≡ past =
            ap (λ (g : ℕ). at_place image.at (histories_in left g shard)) from
            ∙ ap (λ (n : ℕ). at_place n (histories_in left giver shard)) image_is.at_is
            ∙ place_of past (histories_in left giver shard) (older_past (Gave member what.Image) past (histories_in left giver shard) older) in
            record {
              from_founder = omega (arith, few, from);
              gave = subst (λ (q : List Deed). Older (Gave member what.Image ∷ q) (histories_in left image.from shard)) (sym there)
                  (subst (λ (g : ℕ). Older (Gave member what.Image ∷ past) (histories_in left g shard)) (sym from) older);
              is_image = subst (λ (q : List Deed). IsImageOf image.from heading.floor q image) (sym there)
                  (subst (λ (g : ℕ). IsImageOf g heading.floor past image) (sym from) image_is);
            }

    pub threads_left : IsThread heading lines (histories_in left) member (a.hosts member).works (a.hosts member).taken
        (λ shard. owned heading lines left script a member shard Thread)
    threads_left = record {
      deeds = λ shard less. refl;
      shards = host.fits;
      duties = host.duties;
      mails = host.mails;
      members = host.members;
      given = given_left;
      merged = merged_left;
    }
