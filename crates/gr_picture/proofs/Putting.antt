-- How elements are put together.
use Rattle.std.proofs.Common.{◌≡◌, ℕ, List, [], ◌∷◌, ◌++◌, ◌&&◌, true, false, codes, flat_map, refl, sym, ap, ◌∙◌, append_assoc, append-nil}
use Rattle.std.proofs.lemmas.Bool.{false≢true}
use Rattle.std.specs.Prelude.{Bool, Result, Ok, Err, OnOk, IsOk}
use Rattle.gr_picture.specs.Elements.{Attribute, Content, Nothing, Feed, Words, Alone, Around, attribute_text, begun, closing, content_text}
use Rattle.gr_picture.specs.Elements.{is_name, are_names, IsNamed, IsContent, Draws, IsBegun, IsInside}
use Rattle.gr_picture.specs.Elements.{placed}
use Rattle.gr_picture.specs.Escapes.{escaped}
use Rattle.gr_picture.specs.Styles.{style_attributes}
use Rattle.gr_picture.specs.declared.style.Style.{Style}
use Rattle.gr_picture.specs.declared.style.Style.TheVariants.{Plain, Bold, Dim, Dark, Middle, AtEnd}

-- ---- one content behind another

behind : Content → Content → Content
behind Nothing next = next
behind (Feed rest) next = Feed (behind rest next)
behind (Words text rest) next = Words text (behind rest next)
behind (Alone tag attributes rest) next = Alone tag attributes (behind rest next)
behind (Around tag attributes inside rest) next = Around tag attributes inside (behind rest next)

-- one text more in front of both
abbrev Grown : Content → Content → Type 0
Grown one next = content_text (behind one next) ≡ content_text one ++ content_text next

grown_by : (front : List ℕ) (rest next : Content) → Grown rest next
    → front ++ content_text (behind rest next) ≡ (front ++ content_text rest) ++ content_text next
grown_by front rest next is = ap (λ l. front ++ l) is ∙ sym (append_assoc front (content_text rest) (content_text next))

behind_text : (one next : Content) → Grown one next
unfolding behind
behind_text Nothing next = refl
behind_text (Feed rest) next = grown_by (codes "\n") rest next (behind_text rest next)
behind_text (Words text rest) next = grown_by (escaped false text) rest next (behind_text rest next)
behind_text (Alone tag attributes rest) next = grown_by (begun tag attributes ++ codes "/>") rest next (behind_text rest next)
behind_text (Around tag attributes inside rest) next =
    grown_by (((begun tag attributes ++ codes ">") ++ content_text inside) ++ closing tag) rest next (behind_text rest next)

behind_named : (one next : Content) → IsNamed one → IsNamed next → IsNamed (behind one next)
unfolding behind
behind_named Nothing next is also = also
behind_named (Feed rest) next is also = behind_named rest next is also
behind_named (Words text rest) next is also = behind_named rest next is also
behind_named (Alone tag attributes rest) next is also = (is.0, behind_named rest next is.1 also)
behind_named (Around tag attributes inside rest) next is also = (is.0, is.1, behind_named rest next is.2 also)

-- ---- what is put

pub draws_none : (text : List ℕ) → Draws text text
draws_none text = record { content = Nothing; named = tt; put = sym (append-nil text) }

joined : (start mid now more last : List ℕ) → mid ≡ start ++ more → now ≡ mid ++ last → now ≡ start ++ (more ++ last)
joined start mid now more last first then = then ∙ ap (λ l. l ++ last) first ∙ append_assoc start more last

pub draws_more : (start mid now : List ℕ) → Draws start mid → Draws mid now → Draws start now
draws_more start mid now one next = record {
  content = behind one.content next.content;
  named = behind_named one.content next.content one.named next.named;
  put = joined start mid now (content_text one.content) (content_text next.content) one.put next.put
      ∙ ap (λ l. start ++ l) (sym (behind_text one.content next.content));
}

pub draws_words : (start now text : List ℕ) → now ≡ start ++ escaped false text → Draws start now
draws_words start now text is = record {
  content = Words text Nothing;
  named = tt;
  put = is ∙ ap (λ l. start ++ l) (sym (append-nil (escaped false text)));
}

pub draws_feed : (start now : List ℕ) → now ≡ start ++ codes "\n" → Draws start now
draws_feed start now is = record {
  content = Feed Nothing;
  named = tt;
  put = is ∙ ap (λ l. start ++ l) (sym (append-nil (codes "\n")));
}

pub content_none : (text : List ℕ) → text ≡ [] → IsContent text
content_none text is = record { content = Nothing; named = tt; spelled = is }

pub content_more : (old new : List ℕ) → IsContent old → Draws old new → IsContent new
content_more old new before more = record {
  content = behind before.content more.content;
  named = behind_named before.content more.content before.named more.named;
  spelled = more.put ∙ ap (λ l. l ++ content_text more.content) before.spelled
      ∙ sym (behind_text before.content more.content);
}

pub content_kept : {E : Type 0} (old new : List ℕ) (put : Result (Unit {0}) E) (torn : Bool)
    → (torn ≡ false → IsContent old) → OnOk put (Draws old new) → torn ≡ false → IsOk put → IsContent new
content_kept old new (Ok done) torn before drawn whole ok = content_more old new (before whole) drawn
content_kept old new (Err end) torn before drawn whole ok = absurd (false≢true ok)

pub draws_content : (start now text : List ℕ) → IsContent text → now ≡ start ++ text → Draws start now
draws_content start now text is put = record {
  content = is.content;
  named = is.named;
  put = put ∙ ap (λ l. start ++ l) is.spelled;
}

-- ---- tags

pub begun_first : (tag start now : List ℕ) → now ≡ start ++ (codes "<" ++ tag) → IsBegun tag [] start now
begun_first tag start now is = is ∙ ap (λ l. start ++ (codes "<" ++ l)) (sym (append-nil tag))

texts_more : (some more : List Attribute)
    → flat_map attribute_text (some ++ more) ≡ flat_map attribute_text some ++ flat_map attribute_text more
texts_more [] more = refl
texts_more (first ∷ rest) more =
    ap (λ l. attribute_text first ++ l) (texts_more rest more)
    ∙ sym (append_assoc (attribute_text first) (flat_map attribute_text rest) (flat_map attribute_text more))

begun_with : (tag : List ℕ) (some more : List Attribute)
    → begun tag some ++ flat_map attribute_text more ≡ begun tag (some ++ more)
begun_with tag some more =
    append_assoc (codes "<") (tag ++ flat_map attribute_text some) (flat_map attribute_text more)
    ∙ ap (λ l. codes "<" ++ l)
    (append_assoc tag (flat_map attribute_text some) (flat_map attribute_text more) ∙ ap (λ l. tag ++ l) (sym (texts_more some more)))

pub begun_all : (tag start mid now : List ℕ) (some more : List Attribute) → IsBegun tag some start mid
    → now ≡ mid ++ flat_map attribute_text more → IsBegun tag (some ++ more) start now
begun_all tag start mid now some more begins is =
    joined start mid now (begun tag some) (flat_map attribute_text more) begins is ∙ ap (λ l. start ++ l) (begun_with tag some more)

pub one_text : (start now : List ℕ) (one : Attribute) → now ≡ start ++ attribute_text one
    → now ≡ start ++ flat_map attribute_text (one ∷ [])
one_text start now one is = is ∙ ap (λ l. start ++ l) (sym (append-nil (attribute_text one)))

pub begun_more : (tag start mid now : List ℕ) (some : List Attribute) (one : Attribute) → IsBegun tag some start mid
    → now ≡ mid ++ attribute_text one → IsBegun tag (some ++ one ∷ []) start now
begun_more tag start mid now some one begins is =
    begun_all tag start mid now some (one ∷ []) begins (one_text mid now one is)

pub begun_alone : (tag start mid now : List ℕ) (all : List Attribute) → IsBegun tag all start mid
    → is_name tag && are_names all ≡ true → now ≡ mid ++ codes "/>" → Draws start now
begun_alone tag start mid now all begins fit is = record {
  content = Alone tag all Nothing;
  named = (fit, tt);
  put = joined start mid now (begun tag all) (codes "/>") begins is ∙ ap (λ l. start ++ l) (sym (append-nil (begun tag all ++ codes "/>")));
}

pub begun_inside : (tag start mid now : List ℕ) (first more : List Attribute) → IsBegun tag (first ++ more) start mid
    → is_name tag && are_names (first ++ more) ≡ true → now ≡ mid ++ codes ">" → IsInside tag first start now
begun_inside tag start mid now first more begins fit is = record {
  more = more;
  fit = fit;
  content = Nothing;
  named = tt;
  put = joined start mid now (begun tag (first ++ more)) (codes ">") begins is
      ∙ ap (λ l. start ++ l) (sym (append-nil (begun tag (first ++ more) ++ codes ">")));
}

pub inside_more : (tag start mid now : List ℕ) (first : List Attribute) → IsInside tag first start mid → Draws mid now
    → IsInside tag first start now
inside_more tag start mid now first held more = record {
  more = held.more;
  fit = held.fit;
  content = behind held.content more.content;
  named = behind_named held.content more.content held.named more.named;
  put = let front = begun tag (first ++ held.more) ++ codes ">" in
      joined start mid now (front ++ content_text held.content) (content_text more.content) held.put more.put
      ∙ ap (λ l. start ++ l) (sym (grown_by front held.content more.content (behind_text held.content more.content)));
}

pub inside_closed : (tag start mid now : List ℕ) (first : List Attribute) → IsInside tag first start mid
    → now ≡ mid ++ closing tag → Draws start now
inside_closed tag start mid now first held is = record {
  content = Around tag (first ++ held.more) held.content Nothing;
  named = (held.fit, held.named, tt);
  put = let all = (begun tag (first ++ held.more) ++ codes ">") ++ content_text held.content in
      joined start mid now all (closing tag) held.put is ∙ ap (λ l. start ++ l) (sym (append-nil (all ++ closing tag)));
}

-- What a style of one attribute adds.
pub styled : (start now : List ℕ) (style : Style) (one : Attribute) → style_attributes style ≡ one ∷ []
    → now ≡ start ++ attribute_text one → now ≡ start ++ flat_map attribute_text (style_attributes style)
styled start now style one adds is = one_text start now one is ∙ ap (λ l. start ++ flat_map attribute_text l) (sym adds)

-- A text at a point has no two attributes of one name, whatever its style.
pub style_fit : (x y : ℕ) (style : Style) → is_name (codes "text") && are_names ([] ++ (placed x y ++ style_attributes style)) ≡ true
style_fit x y Plain = refl
style_fit x y Bold = refl
style_fit x y Dim = refl
style_fit x y Dark = refl
style_fit x y Middle = refl
style_fit x y AtEnd = refl
