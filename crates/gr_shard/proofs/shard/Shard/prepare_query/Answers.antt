use Rattle.std.proofs.Common.{◌∙◌, ap, sym, subst, reverse}
use Rattle.gr_history.specs.declared.deed.Deed.TheVariants.{Asked}
use Rattle.gr_shard.specs.declared.asking.Replies.{Replies}
use Rattle.gr_shard.specs.declared.next.Came.TheVariants.{Reply}
use Rattle.gr_shard.specs.Prepared.{IsFit}
use Rattle.gr_shard.specs.View.{with_spare}
use Rattle.gr_shard.proofs.Prepares.{fit_asked, turned_asked}
use Rattle.gr_shard.proofs.shard.Shard.prepare_query.Goals as goal

pub returns-clause-prepared : goal.returns-clause-prepared
returns-clause-prepared c = rw c.in_ok-deed.ensures record {
  gives = (
    ap (λ (r : Replies). Reply r.told) c.in_ok-replies.ensures.replies,
    ap (λ ask. Asked c.args.client c.args.seq ask c.in_ok-replies.field-0.replies.noted) c.in_ok-asked.ensures
        ∙ ap (λ (r : Replies). Asked c.args.client c.args.seq c.args.ask.now r.noted) c.in_ok-replies.ensures.replies,
  );
  turned_are = c.none_turned.ensures
      ∙ sym (turned_asked c.args.client c.args.seq c.in_ok-asked.asked c.in_ok-replies.field-0.replies.noted
      (reverse c.args.self.now.deeds));
}

pub returns-clause-made : goal.returns-clause-made
returns-clause-made c =
    let told = c.in_ok-replies.field-0 in
    subst (λ a. IsFit a c.in_ok-deed.deed
    (record c.none.result { queries = told.after })) (sym c.in_ok-replies.ensures.same)
    (rw (c.in_ok-deed.ensures, c.in_ok-asked.ensures, c.none.ensures)
    (fit_asked (with_spare c.ask_ahead.new.self.spare c.args.self.now) c.args.client c.args.seq c.args.ask.now told.replies.noted
    told.after c.in_ok-replies.ensures.room (ap (λ (r : Replies). r.noted) c.in_ok-replies.ensures.replies)
    c.in_ok-replies.ensures.after c.in_ok-replies.ensures.made))
