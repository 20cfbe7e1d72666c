-- Locations of places to which lines give locations have homes of their own.
use Rattle.std.proofs.Common.{◌≡◌, ◌⊎◌, inl, inr, ℕ, List, [], ◌∷◌, ◌++◌, length, map, Option, Some, None, Bool, true, false, refl, sym, ap, subst, ◌∙◌}
use Rattle.std.specs.Prelude.{nat_eq, ◌||◌, if◌then◌else◌}
use Rattle.std.proofs.lemmas.Bool.{and_parts, eq-eqb, eqb-true}
use Rattle.nim_types.specs.declared.types.TypeDef.{TypeDef}
use Rattle.flat_code.specs.declared.block.BlockLine.{BlockLine}
use Rattle.flat_code.specs.declared.line.Line.{Line}
use Rattle.flat_code.specs.declared.line.Line.TheVariants as L
use Rattle.flat_code.specs.declared.line.Owning.TheVariants as W
use Rattle.flat_code.specs.Codes.{block_plain}
use Rattle.flat_code.specs.Fits.{is_location}
use Rattle.word_lowering.specs.declared.homes.Alias.{Alias}
use Rattle.word_lowering.specs.declared.homes.Alias.TheVariants as alias
use Rattle.word_lowering.specs.declared.homes.Housed.{Housed}
use Rattle.word_lowering.specs.Aliases.{alias_by, and_some, is_among, location_to, own_literal, own_where, standing, stands_by, texts_of, value_to}
use Rattle.word_lowering.specs.MayLower.{has_code, homed_by, is_as, is_value_as, leads_right, line_may, lines_may, own_values, stands_lent}
use Rattle.word_lowering.proofs.Options.{none_some, some_same}
use Rattle.word_lowering.proofs.ShapeFacts.{never}

chosen_own : (standing : List ℕ) (p : ℕ) (b : Bool) → is_among p standing ≡ b
    → own_where standing (alias.Place p false) ≡ (if b then alias.Own else alias.Place p false)
chosen_own standing p b e = ap (λ c. if c then alias.Own else alias.Place p false) e

pub own_or_same : (standing : List ℕ) (a : Alias) → (own_where standing a ≡ alias.Own) ⊎ (own_where standing a ≡ a)
own_or_same standing (alias.Place p false) = by (is_among p standing) refl
  where
    by : (b : Bool) → is_among p standing ≡ b
        → (own_where standing (alias.Place p false) ≡ alias.Own) ⊎ (own_where standing (alias.Place p false) ≡ alias.Place p false)
    by true e = inl (chosen_own standing p true e)
    by false e = inr (chosen_own standing p false e)
own_or_same standing a = inr refl

pub own_or_literal : (taken : List ℕ) (t : ℕ) (a : Alias) → (own_literal taken t a ≡ alias.Own) ⊎ (own_literal taken t a ≡ a)
own_or_literal taken t (alias.Text behind size) = by (is_among t taken)
  where
    by : (b : Bool) → ((if b then alias.Own else alias.Text behind size) ≡ alias.Own)
        ⊎ ((if b then alias.Own else alias.Text behind size) ≡ alias.Text behind size)
    by true = inl refl
    by false = inr refl
own_or_literal taken t a = inr refl

no_own : {A : Type 0} (p : ℕ) (global : Bool) → alias.Own ≡ alias.Place p global → A
no_own p global e = absurd cc

-- what is still another name for a place
pub still_named : (standing : List ℕ) (a : Alias) (p : ℕ) (global : Bool) → own_where standing a ≡ alias.Place p global → a ≡ alias.Place p global
still_named standing a p global e = by (own_or_same standing a)
  where
    by : (own_where standing a ≡ alias.Own) ⊎ (own_where standing a ≡ a) → a ≡ alias.Place p global
    by (inl own) = no_own p global (sym own ∙ e)
    by (inr same) = sym same ∙ e

no_own_value : {A : Type 0} (u : ℕ) → alias.Own ≡ alias.Value u → A
no_own_value u e = absurd cc

-- or for a value
pub still_value : (standing : List ℕ) (a : Alias) (u : ℕ) → own_where standing a ≡ alias.Value u → a ≡ alias.Value u
still_value standing a u e = by (own_or_same standing a)
  where
    by : (own_where standing a ≡ alias.Own) ⊎ (own_where standing a ≡ a) → a ≡ alias.Value u
    by (inl own) = no_own_value u (sym own ∙ e)
    by (inr same) = sym same ∙ e

-- is of one that isn't among them
pub unstood : (standing : List ℕ) (a : Alias) (p : ℕ) → own_where standing a ≡ alias.Place p false → is_among p standing ≡ false
unstood standing a p e = by (is_among p standing) refl
  where
    by : (b : Bool) → is_among p standing ≡ b → is_among p standing ≡ false
    by true h = no_own p false (sym (ap (own_where standing) (still_named standing a p false e) ∙ chosen_own standing p true h) ∙ e)
    by false h = h

-- and what isn't is of one that is
pub stood_among : (standing : List ℕ) (p : ℕ) → own_where standing (alias.Place p false) ≡ alias.Own → is_among p standing ≡ true
stood_among standing p e = by (is_among p standing) refl
  where
    by : (b : Bool) → is_among p standing ≡ b → is_among p standing ≡ true
    by true h = h
    by false h = no_own p false (sym e ∙ chosen_own standing p false h)

-- ---- lines that give locations

more_among : (n : ℕ) (o : Option ℕ) (ns : List ℕ) → is_among n ns ≡ true → is_among n (and_some o ns) ≡ true
more_among n None ns h = h
more_among n (Some m) ns h = by (nat_eq m n)
  where
    by : (b : Bool) → (b || is_among n ns) ≡ true
    by true = refl
    by false = h

pub stands_among : (p : ℕ) (before : List BlockLine) (line : BlockLine) (rest : List BlockLine) → stands_by (block_plain line) ≡ Some p
    → is_among p (standing (map block_plain (before ++ line ∷ rest))) ≡ true
stands_among p [] line rest e =
    ap (λ o. is_among p (and_some o (standing (map block_plain rest)))) e
    ∙ ap (λ b. b || is_among p (standing (map block_plain rest))) (eq-eqb p p refl)
stands_among p (b ∷ before) line rest e =
    more_among p (stands_by (block_plain b)) (standing (map block_plain (before ++ line ∷ rest))) (stands_among p before line rest e)

pub stands_right : (table : List TypeDef) (hs : List Housed) (line : Line) (q : ℕ) → stands_by line ≡ Some q → leads_right table hs line ≡ true
    → stands_lent hs q ≡ true
stands_right table hs (L.Own (W.PlaceStands p) from) q e h = subst (λ n. stands_lent hs n ≡ true) (some_same p q e) h
stands_right table hs (L.Own what from) q e h = absurd (none_some q e)
stands_right table hs line q e h = absurd (none_some q e)

-- each of these places stands by address
pub standing_lent : (table : List TypeDef) (hs : List Housed) (whole : List ℕ) (p : ℕ) (lines : List Line) → lines_may table hs whole lines ≡ true
    → is_among p (standing lines) ≡ true → stands_lent hs p ≡ true
standing_lent table hs whole p [] may h = never h
standing_lent table hs whole p (line ∷ rest) may h =
    let m = and_parts (line_may table hs whole line (length (texts_of rest))) (lines_may table hs whole rest) may in
    by (stands_by line) (λ q e. stands_right table hs line q e (here line (length (texts_of rest)) m.0)) h (standing_lent table hs whole p rest m.1)
  where
    here : (line : Line) (behind : ℕ) → line_may table hs whole line behind ≡ true → leads_right table hs line ≡ true
    here line behind e =
        let a = and_parts (is_value_as hs (value_to line) (alias_by line behind)) _ e in
        let b = and_parts (is_as is_location hs (location_to line) (own_where whole (alias_by line behind))) _ a.1 in
        let c = and_parts (has_code table line) _ b.1 in
        (and_parts (own_values hs (homed_by line)) (leads_right table hs line) c.1).1

    by : (o : Option ℕ) → ((q : ℕ) → o ≡ Some q → stands_lent hs q ≡ true) → is_among p (and_some o (standing rest)) ≡ true
        → (is_among p (standing rest) ≡ true → stands_lent hs p ≡ true) → stands_lent hs p ≡ true
    by None lent among more = more among
    by (Some q) lent among more = at (nat_eq q p) refl among
      where
        at : (b : Bool) → nat_eq q p ≡ b → (b || is_among p (standing rest)) ≡ true → stands_lent hs p ≡ true
        at true e among = subst (λ n. stands_lent hs n ≡ true) (eqb-true q p e) (lent q refl)
        at false e among = more among
