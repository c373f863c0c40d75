-- What the reader of a query makes of a list of terminals, where the terminals from one on are others.
use Rattle.std.proofs.Common.{◌≡◌, ℕ, List, [], ◌∷◌, ◌++◌, length, leb, Ok, Option, Some, None, Bool, true, false, if◌then◌else◌, refl}
use Rattle.std.proofs.Common.{sym, subst}
use Rattle.gr_lex.specs.declared.token.Symbol.TheVariants as symbols
use Rattle.gr_oql.specs.Question.{Asked}
use Rattle.gr_oql.specs.declared.keyword.Keyword.TheVariants as word
use Rattle.gr_oql.specs.declared.fault.Part.TheVariants as part
use Rattle.gr_oql.specs.declared.halt.Wrong.{Wrong}
use Rattle.gr_oql.specs.declared.halt.Wrong.TheVariants.{Expected, NotACq}
use Rattle.gr_oql.specs.Terminals.{Terminal, begins, front, rest, is_symbol, is_keyword, as_name, is_tail}
use Rattle.gr_oql.specs.Reader.Reading.{Reading, ◌>>=◌, stop, symbol_at, keyword_at, star_at, region_by, region_at, alias_by, alias_at}
use Rattle.gr_oql.specs.Reader.Reading.{end_at, bare_end_at, where_at, source_at, query_within}
use Rattle.gr_oql.proofs.Ahead.{raised}
use Rattle.gr_oql.proofs.Stays.{Stays, Alike, Follows, Leaves, limited, stop_leaves, ok_leaves, choice_leaves, stop_follows}
use Rattle.gr_oql.proofs.Stays.{choice_follows, stays_by, leaves_of, follows_of, equal_stays, pure_stays, stop_stays, bind_stays, as_stays}
use Rattle.gr_oql.proofs.Stays.{if_stays, front_stays, limited_stays, symbol_stays, keyword_stays, name_stays}
use Rattle.gr_oql.proofs.StaysCondition.{condition_stays}

-- what is wrong where no `*` stands
abbrev no_star : List Terminal → Wrong
no_star [] = Expected
no_star (t ∷ ts) = if is_keyword word.Distinct t then NotACq part.Distinct else NotACq part.Projection

-- what is wrong where the query should end
abbrev no_end : List Terminal → Wrong
no_end [] = Expected
no_end (t ∷ ts) = if is_tail t then NotACq part.Tail else Expected

-- a query from SELECT on
abbrev selection_at : ℕ → List Terminal → Reading Asked
selection_at depth ts = keyword_at word.Select ts >>= λ select. star_at select.1 >>= λ star. keyword_at word.From star.1
    >>= λ from. symbol_at symbols.Slash from.1 >>= λ slash. source_at depth slash.1

module _ {t t' : Terminal} {m m' : List Terminal} {Ordinary : Wrong
    → Type 0} {bottom : ℕ} (alike : Alike t t' m m' Ordinary bottom) (imports : is_keyword word.Import t' ≡ is_keyword word.Import t) where
  star_stays : Stays t t' m m' Ordinary star_at star_at
  star_stays = equal_stays is (if_stays (is_symbol symbols.Star) (alike.no_symbol symbols.Star refl) (pure_stays tt) (stop_stays no_star))
    where
      by_distinct : (ts : List Terminal) (b : Bool)
          → (if b then stop (NotACq part.Distinct) ts else stop (NotACq part.Projection) ts)
          ≡ stop {A = Unit {0}} (if b then NotACq part.Distinct else NotACq part.Projection) ts
      by_distinct ts true = refl
      by_distinct ts false = refl

      is : (ts : List Terminal) → star_at ts ≡ (if begins (is_symbol symbols.Star) ts then Ok (tt, rest ts) else stop (no_star ts) ts)
      is [] = refl
      is (s ∷ ts) = rw (by_distinct (s ∷ ts) (is_keyword word.Distinct s)) refl

  region_stays : Stays t t' m m' Ordinary region_at region_at
  region_stays = equal_stays (λ ts. is (front as_name ts) ts)
      (limited_stays as_name alike.names (λ w. leb (length w) 254) (λ w. 0x2F ∷ w) Expected)
    where
      is : (o : Option (List ℕ)) (ts : List Terminal) → region_by o ts ≡ limited (λ w. leb (length w) 254) (λ w. 0x2F ∷ w) Expected o ts
      is None ts = refl
      is (Some w) ts = refl

  alias_stays : Stays t t' m m' Ordinary alias_at alias_at
  alias_stays = if_stays (is_keyword word.As) (alike.no_keyword word.As) (as_stays (λ w. Some w) (name_stays alike))
      (front_stays alias_by as_name alike.names (λ w ts. refl) (λ w. pure_stays (Some w)) (pure_stays None))

  -- the end of a query, which never stands before a terminal
  end_stays : Stays t t' m m' Ordinary end_at end_at
  end_stays = stays_by leaves follows
    where
      leaves : (ts : List Terminal) → Leaves ts (end_at ts)
      leaves [] = ok_leaves tt []
      leaves (s ∷ ts) = stop_leaves (no_end (s ∷ ts)) (s ∷ ts)

      follows : (same : List Terminal) → Follows t t' m m' Ordinary (end_at (same ++ t ∷ m)) (end_at (same ++ t' ∷ m'))
      follows [] = stop_follows (no_end (t ∷ m)) (no_end (t' ∷ m')) []
      follows (s ∷ same) = stop_follows (no_end (s ∷ (same ++ t ∷ m))) (no_end (s ∷ (same ++ t' ∷ m'))) (s ∷ same)

  bare_end_stays : Stays t t' m m' Ordinary bare_end_at bare_end_at
  bare_end_stays = stays_by (λ ts.
      choice_leaves (begins (is_symbol symbols.Comma) ts) (stop_leaves (NotACq part.Join) ts) (leaves_of end_stays ts)) follows
    where
      stops_at : (s : Terminal) (ts : List Terminal) (b : Bool)
          → (if b then stop (NotACq part.Join) (s ∷ ts) else end_at (s ∷ ts))
          ≡ stop (if b then NotACq part.Join else no_end (s ∷ ts)) (s ∷ ts)
      stops_at s ts true = refl
      stops_at s ts false = refl

      follows : (same : List Terminal) → Follows t t' m m' Ordinary (bare_end_at (same ++ t ∷ m)) (bare_end_at (same ++ t' ∷ m'))
      follows [] = rw (stops_at t m (is_symbol symbols.Comma t), stops_at t' m' (is_symbol symbols.Comma t')) (stop_follows _ _ [])
      follows (s ∷ same) = choice_follows (is_symbol symbols.Comma s) (stop_follows (NotACq part.Join) (NotACq part.Join) (s ∷ same))
          (follows_of end_stays (s ∷ same))

  where_stays : (alias : Option (List ℕ)) (depth : ℕ)
      → Stays t t' m m' Ordinary (where_at depth alias) (where_at (raised bottom depth) alias)
  where_stays alias depth =
      if_stays (is_keyword word.Where) (alike.no_keyword word.Where)
      (bind_stays (condition_stays t t' m m' Ordinary bottom alike alias depth) (λ c. as_stays (λ _. Some c) end_stays))
      (as_stays (λ _. None) bare_end_stays)

  source_stays : (depth : ℕ) → Stays t t' m m' Ordinary (source_at depth) (source_at (raised bottom depth))
  source_stays depth =
      bind_stays region_stays (λ region.
      bind_stays alias_stays (λ alias.
      as_stays (λ c. record { region = region; alias = alias; condition = c }) (where_stays alias depth)))

  selection_stays : (depth : ℕ) → Stays t t' m m' Ordinary (selection_at depth) (selection_at (raised bottom depth))
  selection_stays depth =
      bind_stays (keyword_stays alike word.Select) (λ _.
      bind_stays star_stays (λ _.
      bind_stays (keyword_stays alike word.From) (λ _.
      bind_stays (symbol_stays alike symbols.Slash refl) (λ _. source_stays depth))))

  pub query_stays : (depth : ℕ) → Stays t t' m m' Ordinary (query_within depth) (query_within (raised bottom depth))
  query_stays depth = stays_by (λ ts.
      choice_leaves (begins (is_keyword word.Import) ts) (stop_leaves (NotACq part.Import) ts)
      (leaves_of (selection_stays depth) ts)) follows
    where
      imported : (b b' : Bool) → b' ≡ b
          → Follows t t' m m' Ordinary (if b then stop (NotACq part.Import) (t ∷ m) else selection_at depth (t ∷ m)) (if b'
          then stop (NotACq part.Import) (t' ∷ m') else selection_at (raised bottom depth) (t' ∷ m'))
      imported b b' same = subst (λ (c : Bool). Follows t t' m m' Ordinary (if b then stop (NotACq part.Import) (t ∷ m)
          else selection_at depth (t ∷ m)) (if c then stop (NotACq part.Import) (t' ∷ m')
          else selection_at (raised bottom depth) (t' ∷ m'))) (sym same)
          (choice_follows b (stop_follows (NotACq part.Import) (NotACq part.Import) []) (follows_of (selection_stays depth) []))

      follows : (same : List Terminal)
          → Follows t t' m m' Ordinary (query_within depth (same ++ t ∷ m)) (query_within (raised bottom depth) (same ++ t' ∷ m'))
      follows [] = imported (is_keyword word.Import t) (is_keyword word.Import t') imports
      follows (s ∷ same) = choice_follows (is_keyword word.Import s) (stop_follows (NotACq part.Import) (NotACq part.Import) (s ∷ same))
          (follows_of (selection_stays depth) (s ∷ same))
