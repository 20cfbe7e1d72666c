-- Lines in front of others, and the places that they are for: both are of what is built, and the places take at most so many bytes, with so many to
-- spare.
use Rattle.std.proofs.Common.{◌≡◌, ℕ, zero, suc, ◌+◌, ◌*◌, ◌<◌, ◌≤◌, ◌⊎◌, inl, inr, Bool, true, false, List, [], ◌∷◌, ◌++◌, length, Option, Some, None}
use Rattle.std.proofs.Common.{refl, sym, ap, ◌∙◌, subst, arith}
use Rattle.std.specs.Prelude.{◌||◌, if◌then◌else◌}
use Rattle.std.proofs.lemmas.Bool.{both_ways, or_parts}
use Rattle.nim_types.specs.Types.{Ty, Facts, same}
use Rattle.nim_types.specs.Forms as form
use Rattle.nim_types.specs.Forms.{Form, Forms, hooked, hooked_any, levels, size, size_all, form_of, or_word}
use Rattle.nim_types.specs.Table.{type_at}
use Rattle.nim_types.proofs.ForCallers.{same_sound, same_refl}
use Rattle.nim_program.specs.declared.expr.Node.{Node}
use Rattle.nim_program.specs.declared.program.Mode.{Mode}
use Rattle.nim_program.specs.Kinds.{is_among_types}
use Rattle.nim_program.specs.Sizes.{type_bytes}
use Rattle.nim_meaning.specs.Here.{is_hooked}
use Rattle.nim_meaning.specs.Unbuilt.{has_unbuilt, has_unbuilt_any, is_unbuilt}
use Rattle.flat_code.specs.declared.line.Line.{Line}
use Rattle.flat_code.specs.declared.place.FlatPlace.{FlatPlace}
use Rattle.flat_code.specs.declared.place.PlaceKind.{PlaceKind}
use Rattle.flat_code.specs.declared.place.PlaceKind.TheVariants as K
use Rattle.flat_code.specs.Scene.{Known}
use Rattle.flat_code.specs.Sizes.{kind_bytes, lent_bytes, place_bytes, places_bytes}
use Rattle.flattening.specs.Numbering.{type_number}
use Rattle.flattening.specs.Places.{place}
use Rattle.flat_code.specs.BuiltCode.{is_param, IsBuiltPlace, AreBuiltPlaces, IsBuiltLine, AreBuiltLines}
use Rattle.flattening.proofs.Listed.{listed}
use Rattle.flattening.proofs.Simple.{never, IsFine}

-- ---- numbers of types

pub number_within : (types : List Ty) (ty : Ty) → is_among_types types ty ≡ true → type_number types ty < length types
number_within [] ty h = never h
number_within (t ∷ ts) ty h = at (same t ty) refl (same ty t) refl h (λ g. number_within ts ty g)
  where
    at : (b : Bool) → same t ty ≡ b → (c : Bool) → same ty t ≡ c → (same ty t || is_among_types ts ty) ≡ true →
        (is_among_types ts ty ≡ true → type_number ts ty < length ts) → (if b then zero else suc (type_number ts ty)) < suc (length ts)
    at true e c f h rest = omega arith
    at false e true f h rest = absurd (both_ways (same t ty) e (subst (λ s. same s ty ≡ true) (same_sound ty t f) (same_refl ty)))
    at false e false f h rest = let i = rest (ap (λ b. b || is_among_types ts ty) (sym f) ∙ h) in omega (arith, i)

-- each value takes a word at least
or_least : (n : ℕ) → (n ≡ 0) ⊎ (4 ≤ n) → 4 ≤ or_word n
or_least zero h = omega arith
or_least (suc n) (inl e) = absurd (omega (arith, e))
or_least (suc n) (inr l) = l

mutual
  size_least : (f : Form) → 4 ≤ size f
  size_least form.plain = omega arith
  size_least form.reference = omega arith
  size_least form.block = omega arith
  size_least (form.elements f) = omega arith
  size_least (form.row zero f) = or_least (zero * size f) (inl (omega arith))
  size_least (form.row (suc n) f) = let h = size_least f in or_least (suc n * size f) (inr (omega (arith, h)))
  size_least (form.parts fs) = or_least (size_all fs) (all_least fs)
  size_least (form.resource fs) = or_least (size_all fs) (all_least fs)
  size_least (form.wrapped f) = size_least f

  all_least : (fs : Forms) → (size_all fs ≡ 0) ⊎ (4 ≤ size_all fs)
  all_least form.no_forms = inl refl
  all_least (form.forms f fs) = let h = size_least f in inr (omega (arith, h))

pub bytes_least : (facts : Facts) (ty : Ty) → 4 ≤ type_bytes facts ty
bytes_least facts ty = size_least (form_of facts ty)

-- and one with hooks two, where it is built
two_words : (n : ℕ) → 8 ≤ n → 8 ≤ or_word n
two_words zero h = absurd (omega (arith, h))
two_words (suc n) h = h

mutual
  hooked_size : (f : Form) → has_unbuilt f ≡ false → hooked f ≡ true → 8 ≤ size f
  hooked_size form.plain u h = never h
  hooked_size form.reference u h = never (sym u)
  hooked_size form.block u h = omega arith
  hooked_size (form.elements f) u h = omega arith
  hooked_size (form.row zero f) u h = never h
  hooked_size (form.row (suc n) f) u h = let l = hooked_size f u h in two_words (suc n * size f) (omega (arith, l))
  hooked_size (form.parts fs) u h = let l = all_hooked fs u h in two_words (size_all fs) l
  hooked_size (form.resource fs) u h = never (sym u)
  hooked_size (form.wrapped f) u h = hooked_size f u h

  all_hooked : (fs : Forms) → has_unbuilt_any fs ≡ false → hooked_any fs ≡ true → 8 ≤ size_all fs
  all_hooked form.no_forms u h = never h
  all_hooked (form.forms f fs) u h =
      let q = or_parts (has_unbuilt f) (has_unbuilt_any fs) u in
      by (hooked f) h (λ e. hooked_size f q.0 e) (λ e. all_hooked fs q.1 e)
    where
      by : (b : Bool) → b || hooked_any fs ≡ true → (b ≡ true → 8 ≤ size f) → (hooked_any fs ≡ true → 8 ≤ size_all fs) → 8 ≤ size f + size_all fs
      by true h first rest = let l = first refl in omega (arith, l)
      by false h first rest = let l = rest h in omega (arith, l)

-- what is lent has hooks
abbrev pub word_lent : Facts → Option Ty → ℕ
word_lent facts None = 0
word_lent facts (Some ty) = if is_hooked facts ty then 4 else 0

module _ (types : List Ty) (facts : Facts) where
  abbrev pub known : Known
  known = record { types = types; facts = facts }

  pub bytes_both : (xs ys : List FlatPlace) → places_bytes known (xs ++ ys) ≡ places_bytes known xs + places_bytes known ys
  bytes_both [] ys = omega arith
  bytes_both (p ∷ xs) ys = let h = bytes_both xs ys in omega (arith, h)

  pub built_both : (xs ys : List FlatPlace) → AreBuiltPlaces known xs → AreBuiltPlaces known ys → AreBuiltPlaces known (xs ++ ys)
  built_both [] ys h k = k
  built_both (p ∷ xs) ys h k = (h.0, built_both xs ys h.1 k)

  built_apart : (xs ys : List FlatPlace) → AreBuiltPlaces known (xs ++ ys) → AreBuiltPlaces known xs × AreBuiltPlaces known ys
  built_apart [] ys h = (tt, h)
  built_apart (p ∷ xs) ys h = let q = built_apart xs ys h.1 in ((h.0, q.0), q.1)

  pub record Covers (places : List FlatPlace) (spare most : ℕ) (front : List Line → List Line) : Type 0 where
    pub built : AreBuiltPlaces known places
    pub lines : (k : List Line) → AreBuiltLines known k → AreBuiltLines known (front k)
    pub bytes : places_bytes known places + spare ≤ most

  pub covers_none : Covers [] 0 0 (λ k. k)
  covers_none = record { built = tt; lines = λ k h. h; bytes = omega arith }

  pub covers_line : (line : Line) → IsBuiltLine known line → Covers [] 0 0 (λ k. line ∷ k)
  covers_line line r = record { built = tt; lines = λ k h. (r, h); bytes = omega arith }

infixl 10 ◌>>◌
pub ◌>>◌ : {types : List Ty} {facts : Facts} {xs ys : List FlatPlace} {r s a b : ℕ} {F G : List Line → List Line} → Covers types facts xs r a F →
    Covers types facts ys s b G →
    Covers types facts (xs ++ ys) (r + s) (a + b) (λ k. F (G k))
◌>>◌ {types} {facts} {xs} {ys} {r} {s} {a} {b} {F} {G} p q = record {
  built = built_both types facts xs ys p.built q.built;
  lines = λ k h. p.lines (G k) (q.lines k h);
  bytes = let e = bytes_both types facts xs ys in let h = p.bytes in let i = q.bytes in omega (arith, e, h, i);
}

-- lines for no places, in front of others, and behind
infixl 10 ◌~>◌
pub ◌~>◌ : {types : List Ty} {facts : Facts} {ys : List FlatPlace} {s b : ℕ} {F G : List Line → List Line} → Covers types facts [] 0 0 F →
    Covers types facts ys s b G → Covers types facts ys s b (λ k. F (G k))
◌~>◌ {types} {facts} {ys} {s} {b} {F} {G} p q = record {
  built = q.built;
  lines = λ k h. p.lines (G k) (q.lines k h);
  bytes = q.bytes;
}

infixl 10 ◌<~◌
pub ◌<~◌ : {types : List Ty} {facts : Facts} {xs : List FlatPlace} {r a : ℕ} {F G : List Line → List Line} → Covers types facts xs r a F →
    Covers types facts [] 0 0 G → Covers types facts xs r a (λ k. F (G k))
◌<~◌ {types} {facts} {xs} {r} {a} {F} {G} p q = record {
  built = p.built;
  lines = λ k h. p.lines (G k) (q.lines k h);
  bytes = p.bytes;
}

module _ (types : List Ty) (facts : Facts) where
  pub covers_most : {xs : List FlatPlace} {r a : ℕ} {F : List Line → List Line} (r' a' : ℕ) → r' + a ≤ a' + r → Covers types facts xs r a F →
      Covers types facts xs r' a' F
  covers_most {xs} {r} {a} {F} r' a' le p =
      record { built = p.built; lines = p.lines; bytes = let h = p.bytes in omega (arith, h, le) }

  -- places in another order
  pub turned : (xs ys : List FlatPlace) {r a : ℕ} {F : List Line → List Line} → Covers types facts (ys ++ xs) r a F → Covers types facts (xs ++ ys) r a F
  turned xs ys {r} {a} {F} p = record {
    built = let q = built_apart types facts ys xs p.built in built_both types facts xs ys q.1 q.0;
    lines = p.lines;
    bytes = let e = bytes_both types facts xs ys in let f = bytes_both types facts ys xs in let h = p.bytes in omega (arith, e, f, h);
  }

  pub covers_as : {xs ys : List FlatPlace} {r a : ℕ} {F : List Line → List Line} → xs ≡ ys → Covers types facts xs r a F → Covers types facts ys r a F
  covers_as {xs} {ys} {r} {a} {F} e p = subst (λ places. Covers types facts places r a F) e p

  -- ---- places of types of the table

  pub place_built : (modes : (proc position : ℕ) → Mode) (waits : Option ℕ) (number : ℕ) (node : Node) (kind : PlaceKind) (ty : Ty) →
      IsFine types facts ty → IsBuiltPlace (known types facts) (place types facts modes waits number node.at kind ty)
  place_built modes waits number node kind ty f = inr record {
    numbered = number_within types ty f.0.0;
    built = subst (λ t. is_unbuilt facts t ≡ false) (sym (listed types ty f.0.0)) f.1;
    hooked = ap (is_hooked facts) (sym (listed types ty f.0.0));
    few = subst (λ t. levels (form_of facts t) ≤ 64) (sym (listed types ty f.0.0)) f.0.1;
  }

  pub value_bytes : (ty : Ty) → is_among_types types ty ≡ true → type_bytes facts (type_at types (type_number types ty)) ≡ type_bytes facts ty
  value_bytes ty among = ap (type_bytes facts) (listed types ty among)

  -- it has a word to spare
  pub lent_least : (ty : Ty) → IsFine types facts ty → word_lent facts (Some ty) + 4 ≤ type_bytes facts ty
  lent_least ty f = by (is_hooked facts ty) (λ e. hooked_size (form_of facts ty) f.1 e) (bytes_least facts ty)
    where
      by : (b : Bool) → (b ≡ true → 8 ≤ type_bytes facts ty) → 4 ≤ type_bytes facts ty → (if b then 4 else 0) + 4 ≤ type_bytes facts ty
      by true two one = let l = two refl in omega (arith, l)
      by false two one = omega (arith, one)

  -- what is no parameter isn't lent
  unlent : (kind : PlaceKind) (hooked : Bool) (n : ℕ) → is_param kind ≡ false → lent_bytes kind hooked n ≡ kind_bytes kind n
  unlent (K.Param mode) hooked n e = absurd (both_ways true e refl)
  unlent kind hooked n e = refl

  pub fine_bytes : (modes : (proc position : ℕ) → Mode) (waits : Option ℕ) (number : ℕ) (node : Node) (kind : PlaceKind) (ty : Ty) → IsFine types facts ty →
      is_param kind ≡ false →
      place_bytes (known types facts) (place types facts modes waits number node.at kind ty) ≡ kind_bytes kind (type_bytes facts ty)
  fine_bytes modes waits number node kind ty f own = unlent kind (is_hooked facts ty) _ own ∙ ap (kind_bytes kind) (value_bytes ty f.0.0)
