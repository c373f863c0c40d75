-- What a picture is made of: elements, texts and line feeds. What is spelled by these is well-formed.
use Rattle.std.specs.Prelude.{◌≡◌, ℕ, List, [], ◌∷◌, ◌++◌, Bool, true, false, not, ◌&&◌, ◌||◌}
use Rattle.std.specs.Prelude.{codes, decimal, flat_map, nat_eq, nat_le, bytes_eq}
use Rattle.std.specs.List.{list_all, list_any}
use Rattle.gr_picture.specs.Escapes.{escaped}

pub record Attribute : Type 0 where
  pub name : List ℕ
  pub value : List ℕ

-- Elements alone or round others, each with its tag and its attributes, texts, and line feeds, each with what comes behind it.
pub data Content : Type 0 where
  Nothing : Content
  Feed : Content → Content
  Words : List ℕ → Content → Content
  Alone : List ℕ → List Attribute → Content → Content
  Around : List ℕ → List Attribute → Content → Content → Content

-- ---- attributes that are numbers

abbrev pub numbered : List ℕ → ℕ → Attribute
numbered name number = record { name = name; value = decimal number }

-- a point
abbrev pub placed : ℕ → ℕ → List Attribute
placed x y = numbered (codes "x") x ∷ numbered (codes "y") y ∷ []

-- a point and a size
abbrev pub sized : ℕ → ℕ → ℕ → ℕ → List Attribute
sized x y width height = placed x y ++ (numbered (codes "width") width ∷ numbered (codes "height") height ∷ [])

-- ---- how they are spelled

abbrev pub attribute_text : Attribute → List ℕ
attribute_text attribute = codes " " ++ attribute.name ++ codes "=\"" ++ escaped true attribute.value ++ codes "\""

-- a tag that isn't ended yet
abbrev pub begun : List ℕ → List Attribute → List ℕ
begun tag attributes = codes "<" ++ tag ++ flat_map attribute_text attributes

abbrev pub closing : List ℕ → List ℕ
closing tag = codes "</" ++ tag ++ codes ">"

abbrev pub content_text : Content → List ℕ
content_text Nothing = []
content_text (Feed rest) = codes "\n" ++ content_text rest
content_text (Words text rest) = escaped false text ++ content_text rest
content_text (Alone tag attributes rest) = (begun tag attributes ++ codes "/>") ++ content_text rest
content_text (Around tag attributes inside rest) =
    (((begun tag attributes ++ codes ">") ++ content_text inside) ++ closing tag) ++ content_text rest

-- ---- names

abbrev is_letter : ℕ → Bool
is_letter letter = (nat_le 65 letter && nat_le letter 90) || (nat_le 97 letter && nat_le letter 122)

-- a letter, and further ones with hyphens between them
abbrev pub is_name : List ℕ → Bool
is_name [] = false
is_name (first ∷ rest) = is_letter first && list_all (λ letter. is_letter letter || nat_eq letter 45) rest

-- names, no two of which are one
abbrev pub are_names : List Attribute → Bool
are_names [] = true
are_names (first ∷ rest) =
    is_name first.name && not (list_any (λ other. bytes_eq other.name first.name) rest) && are_names rest

-- Of each element the tag and the attributes have names, and no two attributes one name.
abbrev pub IsNamed : Content → Type 0
IsNamed Nothing = Unit {0}
IsNamed (Feed rest) = IsNamed rest
IsNamed (Words text rest) = IsNamed rest
IsNamed (Alone tag attributes rest) = (is_name tag && are_names attributes ≡ true) × IsNamed rest
IsNamed (Around tag attributes inside rest) = (is_name tag && are_names attributes ≡ true) × IsNamed inside × IsNamed rest

-- ---- texts

-- The text is spelled by such a content.
pub record IsContent (text : List ℕ) : Type 0 where
  pub content : Content
  pub named : IsNamed content
  pub spelled : text ≡ content_text content

-- A content was put last.
pub record Draws (old new : List ℕ) : Type 0 where
  pub content : Content
  pub named : IsNamed content
  pub put : new ≡ old ++ content_text content

-- A tag was begun, with these attributes so far.
abbrev pub IsBegun : List ℕ → List Attribute → List ℕ → List ℕ → Type 0
IsBegun tag attributes old new = new ≡ old ++ begun tag attributes

-- An element was begun, with these attributes first, and what stands in it so far.
pub record IsInside (tag : List ℕ) (first : List Attribute) (old new : List ℕ) : Type 0 where
  pub more : List Attribute
  pub fit : is_name tag && are_names (first ++ more) ≡ true
  pub content : Content
  pub named : IsNamed content
  pub put : new ≡ old ++ ((begun tag (first ++ more) ++ codes ">") ++ content_text content)

-- the name space of SVG
abbrev pub svg_space : Attribute
svg_space = record { name = codes "xmlns"; value = codes "http://www.w3.org/2000/svg" }

-- the further attributes that the tag of a picture begins with: its size, and all of it to be seen
abbrev pub frame_attributes : ℕ → ℕ → List ℕ → List Attribute
frame_attributes width height all =
    numbered (codes "width") width ∷ numbered (codes "height") height ∷ record { name = codes "viewBox"; value = all } ∷ []

abbrev pub worded : List ℕ → List ℕ → Attribute
worded name value = record { name = name; value = value }

-- the attributes that the marker of an arrow's end begins with
abbrev pub marker_attributes : List Attribute
marker_attributes =
    worded (codes "id") (codes "tip") ∷ worded (codes "viewBox") (codes "0 0 10 10") ∷ worded (codes "refX") (codes "9")
    ∷ worded (codes "refY") (codes "5") ∷ worded (codes "markerWidth") (codes "7") ∷ worded (codes "markerHeight") (codes "7") ∷ []

-- An element `svg` of SVG's name space, with all its content, and a line feed.
pub record IsPicture (text : List ℕ) : Type 0 where
  pub within : List ℕ
  pub inside : IsInside (codes "svg") (svg_space ∷ []) [] within
  pub ended : text ≡ (within ++ closing (codes "svg")) ++ codes "\n"
