-- A place of the call whose address a line hands on, by a location that is another name for it, is in memory.
use Rattle.std.proofs.Common.{◌≡◌, ℕ, List, [], ◌∷◌, ◌++◌, map, length, Option, Some, None, Bool, true, false, refl, sym, ap, subst, ◌∙◌}
use Rattle.std.specs.Prelude.{nat_eq, ◌||◌}
use Rattle.std.proofs.lemmas.Bool.{cond-true, cond-false, eqb-true, eq-eqb}
use Rattle.nim_types.specs.declared.types.TypeDef.{TypeDef}
use Rattle.flat_code.specs.declared.block.BlockLine.{BlockLine}
use Rattle.flat_code.specs.declared.code.Code.{Code}
use Rattle.flat_code.specs.declared.line.Line.{Line}
use Rattle.flat_code.specs.declared.line.Line.TheVariants as L
use Rattle.flat_code.specs.declared.place.PlaceKind.{PlaceKind}
use Rattle.flat_code.specs.declared.place.PlaceKind.TheVariants as K
use Rattle.flat_code.specs.Codes.{block_plain}
use Rattle.flat_code.specs.Fits.{is_location}
use Rattle.word_lowering.specs.declared.homes.Alias.{Alias}
use Rattle.word_lowering.specs.declared.homes.Alias.TheVariants as alias
use Rattle.word_lowering.specs.Aliases.{alias_by, alias_in, alias_for, location_to, is_it, texts_of, handed_by, places_in, handed_in, is_among, own_where}
use Rattle.word_lowering.specs.Aliases.{addressed_by, and_some, addressed_in, addressed, standing}
use Rattle.word_lowering.specs.Layouts.{found}
use Rattle.word_lowering.proofs.ShapeFacts.{never}
use Rattle.word_lowering.proofs.Sites.{Body, lines_of, There, IsBody}
use Rattle.word_lowering.proofs.StandingAliases.{still_named, unstood}

-- ---- numbers among others

among_left : (n : ℕ) (ms ns : List ℕ) → is_among n ms ≡ true → is_among n (ms ++ ns) ≡ true
among_left n [] ns h = never h
among_left n (m ∷ ms) ns h = by (nat_eq m n) h (among_left n ms ns)
  where
    by : (b : Bool) → (b || is_among n ms) ≡ true → (is_among n ms ≡ true → is_among n (ms ++ ns) ≡ true) → (b || is_among n (ms ++ ns)) ≡ true
    by true k more = refl
    by false k more = more k

among_right : (n : ℕ) (ms ns : List ℕ) → is_among n ns ≡ true → is_among n (ms ++ ns) ≡ true
among_right n [] ns h = h
among_right n (m ∷ ms) ns h = by (nat_eq m n) (among_right n ms ns h)
  where
    by : (b : Bool) → is_among n (ms ++ ns) ≡ true → (b || is_among n (ms ++ ns)) ≡ true
    by true k = refl
    by false k = k

-- what a line hands on is handed on in code with it
pub handed_among : (t : ℕ) (before : List BlockLine) (line : BlockLine) (rest : List BlockLine)
    → is_among t (places_in (handed_by (block_plain line))) ≡ true → is_among t (handed_in (map block_plain (before ++ line ∷ rest))) ≡ true
handed_among t [] line rest h = among_left t (places_in (handed_by (block_plain line))) (handed_in (map block_plain rest)) h
handed_among t (b ∷ before) line rest h =
    among_right t (places_in (handed_by (block_plain b))) (handed_in (map block_plain (before ++ line ∷ rest))) (handed_among t before line rest h)

-- ---- the line that leads to the place

abbrev number_of : Alias → ℕ
number_of (alias.Place p global) = p
number_of other = 0

abbrev is_global : Alias → Bool
is_global (alias.Place p global) = global
is_global other = false

first_here : (p place : ℕ) (rest : List ℕ) → place ≡ p → is_among p (place ∷ rest) ≡ true
first_here p place rest e = ap (λ b. b || is_among p rest) (eq-eqb place p e)

root_here : (handed : List ℕ) (line : Line) (behind t p : ℕ) (rest : List ℕ) → is_it t (location_to line) ≡ true
    → alias_by line behind ≡ alias.Place p false → is_among t handed ≡ true → is_among p (and_some (addressed_by handed line) rest) ≡ true
root_here handed (L.Root to place true) behind t p rest it e h = never (sym (ap is_global e))
root_here handed (L.Root to place false) behind t p rest it e h =
    let same : to ≡ t = eqb-true to t it in
    let there : is_among to handed ≡ true = subst (λ n. is_among n handed ≡ true) (sym same) h in
    ap (λ o. is_among p (and_some o rest)) (cond-true (is_among to handed) (Some place) None there) ∙ first_here p place rest (ap number_of e)
root_here handed (L.Fresh to from None) behind t p rest it e h = absurd (no_value from p e)
  where
    no_value : (from p : ℕ) → alias.Value from ≡ alias.Place p false → ⊥
    no_value from p e = cc
root_here handed (L.Fresh to from (Some node)) behind t p rest it e h = absurd (no_node node p e)
  where
    no_node : (node p : ℕ) → alias.Node node ≡ alias.Place p false → ⊥
    no_node node p e = cc
root_here handed (L.Standing to ty pieces) behind t p rest it e h = absurd (no_own p e)
  where
    no_own : (p : ℕ) → alias.Own ≡ alias.Place p false → ⊥
    no_own p e = cc
root_here handed (L.Part to from field) behind t p rest it e h = absurd (no_own p e)
  where
    no_own : (p : ℕ) → alias.Own ≡ alias.Place p false → ⊥
    no_own p e = cc
root_here handed (L.Item to from index) behind t p rest it e h = absurd (no_own p e)
  where
    no_own : (p : ℕ) → alias.Own ≡ alias.Place p false → ⊥
    no_own p e = cc
root_here handed (L.Object to from) behind t p rest it e h = absurd (no_own p e)
  where
    no_own : (p : ℕ) → alias.Own ≡ alias.Place p false → ⊥
    no_own p e = cc
root_here handed line behind t p rest it e h = never it

and_among : (n : ℕ) (line : Line) (handed rest : List ℕ) → is_among n rest ≡ true → is_among n (and_some (addressed_by handed line) rest) ≡ true
and_among n line handed rest h = by (addressed_by handed line)
  where
    by : (o : Option ℕ) → is_among n (and_some o rest) ≡ true
    by None = h
    by (Some m) = among_right n (m ∷ []) rest h

alias_addressed : (handed : List ℕ) (t p : ℕ) (lines : List Line) → alias_in location_to t lines ≡ alias.Place p false → is_among t handed ≡ true
    → is_among p (addressed_in handed lines) ≡ true
alias_addressed handed t p [] e h = absurd (no_own p e)
  where
    no_own : (p : ℕ) → alias.Own ≡ alias.Place p false → ⊥
    no_own p e = cc
alias_addressed handed t p (line ∷ rest) e h = by (is_it t (location_to line)) refl (λ f. alias_addressed handed t p rest f h)
  where
    by : (b : Bool) → is_it t (location_to line) ≡ b
        → (alias_in location_to t rest ≡ alias.Place p false → is_among p (addressed_in handed rest) ≡ true)
        → is_among p (addressed_in handed (line ∷ rest)) ≡ true
    by true it more =
        root_here handed line (length (texts_of rest)) t p (addressed_in handed rest) it
        (sym (cond-true (is_it t (location_to line)) (alias_by line (length (texts_of rest))) (alias_in location_to t rest) it) ∙ e) h
    by false it more =
        and_among p line handed (addressed_in handed rest)
        (more (sym (cond-false (is_it t (location_to line)) (alias_by line (length (texts_of rest))) (alias_in location_to t rest) it) ∙ e))

location_alias : (k : PlaceKind) (n : ℕ) (lines : List Line) → is_location k ≡ true
    → alias_for k n lines ≡ own_where (standing lines) (alias_in location_to n lines)
location_alias K.Location n lines h = refl
location_alias K.Within n lines h = refl
location_alias k n lines h = never h

module _ (table : List TypeDef) (blocks : Code BlockLine) (b : Body) (is : IsBody table blocks b) where
  located : (t : ℕ) → There b.own.all is_location t
      → (found is_location t b.own.all).alias ≡ own_where (standing (lines_of b)) (alias_in location_to t (lines_of b))
  located t there =
      is.named_so (found is_location t b.own.all) there.among
      ∙ location_alias (found is_location t b.own.all).kind (found is_location t b.own.all).number (lines_of b) there.kind
      ∙ ap (λ n. own_where (standing (lines_of b)) (alias_in location_to n (lines_of b))) there.number

  pub is_addressed : (t p : ℕ) → There b.own.all is_location t → (found is_location t b.own.all).alias ≡ alias.Place p false
      → is_among t (handed_in (lines_of b)) ≡ true → is_among p (addressed (lines_of b)) ≡ true
  is_addressed t p there e h =
      alias_addressed (handed_in (lines_of b)) t p (lines_of b)
      (still_named (standing (lines_of b)) (alias_in location_to t (lines_of b)) p false (sym (located t there) ∙ e)) h

  -- one that isn't among those to which lines give locations
  pub is_steady : (t p : ℕ) → There b.own.all is_location t → (found is_location t b.own.all).alias ≡ alias.Place p false
      → is_among p (standing (lines_of b)) ≡ false
  is_steady t p there e = unstood (standing (lines_of b)) (alias_in location_to t (lines_of b)) p (sym (located t there) ∙ e)
