-- Eyes that forget nothing.
use Rattle.std.proofs.Common.{◌≡◌, ◌≤◌, List, refl, sym, ap, ◌∙◌, subst, arith}
use Rattle.std.specs.Prelude.{Result, Ok, Err}
use mathlib.Core.List.{IsPrefix}
use Rattle.gr_oql.specs.declared.event.Turned.{Turned}
use Rattle.gr_peek.specs.declared.eye.PeekEnd.{PeekEnd}
use Rattle.gr_peek.specs.declared.eye.PeekEnd.TheVariants as end
use Rattle.gr_peek.specs.Entering.{Follows, IsDenied, IsEntered}
use Rattle.gr_peek.specs.Views.{Watching}
use Rattle.gr_peek.proofs.Entered.{follows_entered}
use Rattle.gr_peek.proofs.Prefixes.{prefix_self, prefix_trans}

pub follows_same : (w : Watching) → Follows w w
follows_same w = record {
  copy_is = refl;
  shown_is = refl;
  knew = prefix_self w.known;
  learnt = prefix_self w.told;
  never_falls = omega arith;
}

pub follows_trans : (a b c : Watching) → Follows a b → Follows b c → Follows a c
follows_trans a b c f g = record {
  copy_is = g.copy_is ∙ f.copy_is;
  shown_is = g.shown_is ∙ f.shown_is;
  knew = prefix_trans a.known b.known c.known f.knew g.knew;
  learnt = prefix_trans a.told b.told c.told f.learnt g.learnt;
  never_falls = let i = f.never_falls in let j = g.never_falls in omega arith;
}

-- an eye that learnt a note
pub follows_learnt : (old new : Watching) (told : List (List Turned)) → new ≡ record old { told = told } → IsPrefix old.told new.told
    → Follows old new
follows_learnt old new told e p = record {
  copy_is = ap (λ (w : Watching). w.copy) e;
  shown_is = ap (λ (w : Watching). w.shown) e;
  knew = subst (λ (w : Watching). IsPrefix old.known w.known) (sym e) (prefix_self old.known);
  learnt = p;
  never_falls = subst (λ (w : Watching). old.denied ≤ w.denied) (sym e) (omega arith);
}

denied : (old new : Watching) → IsDenied old new → Follows old new
denied old new h = record {
  copy_is = ap (λ (w : Watching). w.copy) h.rest;
  shown_is = ap (λ (w : Watching). w.shown) h.rest;
  knew = subst (λ (w : Watching). IsPrefix old.known w.known) (sym h.rest) (prefix_self old.known);
  learnt = subst (λ (w : Watching). IsPrefix old.told w.told) (sym h.rest) (prefix_self old.told);
  never_falls = h.never_falls;
}

pub follows_peek : {T : Type 0} (r : Result T PeekEnd) (old new : Watching) → IsEntered r old new → Follows old new
follows_peek (Ok x) old new h = follows_entered old new h
follows_peek (Err end.Memory) old new h = follows_entered old new h
follows_peek (Err end.Denied) old new h = denied old new h

-- what is noted is still learnt after a peek
pub noted_peek : {T : Type 0} (r : Result T PeekEnd) (old new : Watching) (noted : List (List Turned)) → IsEntered r old new
    → IsPrefix noted old.told → IsPrefix noted new.told
noted_peek r old new noted h p = prefix_trans noted old.told new.told p (follows_peek r old new h).learnt
