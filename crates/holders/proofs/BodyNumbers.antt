-- The numbers of parts of a body are those of parts of it.
use Rattle.std.proofs.Common.{◌≡◌, refl, sym, subst, arith, ℕ, suc, ◌≤◌, inl, inr, ◌⊎◌, Bool, true, false, List, [], ◌∷◌, ◌++◌}
use Rattle.std.specs.Prelude.{Some}
use Rattle.nim_types.specs.Types.{Ty}
use Rattle.nim_program.specs.Program.{Declared}
use Rattle.nim_program.specs.Numbering.{numbers_of}
use Rattle.nim_program.specs.Scopes as scopes
use Rattle.nim_program.specs.Scopes.{placed, look, type_in, with_place}
use Rattle.nim_meaning.specs.Marks.{Member}
use Rattle.nim_meaning.specs.Here.{Here, level_of}
use Rattle.holders.specs.Asked.{Limits}
use Rattle.holders.specs.BodyParts.{NoneNamed}
use Rattle.holders.specs.Numbered.{Rise, Numbered}
use Rattle.holders.proofs.Owning.{distinct_apart}
use Rattle.holders.proofs.NodesRise.{rise_first, rise_second, rise_distinct, least}
use Rattle.holders.proofs.BodySights.{look_more, NewOrOld, as_before, a_new}

pub numbers_first : (n : ℕ) (ds es : List Declared) → Member n (numbers_of ds) → Member n (numbers_of (ds ++ es))
numbers_first n [] es m = elim m [ ]
numbers_first n (d ∷ ds) es (inl e) = inl e
numbers_first n (d ∷ ds) es (inr m) = inr (numbers_first n ds es m)

pub numbers_second : (n : ℕ) (ds es : List Declared) → Member n (numbers_of es) → Member n (numbers_of (ds ++ es))
numbers_second n [] es m = m
numbers_second n (d ∷ ds) es m = inr (numbers_second n ds es m)

rises_first : (from : ℕ) (ds es : List Declared) → Rise from (numbers_of (ds ++ es)) → Rise from (numbers_of ds)
rises_first from [] es r = tt
rises_first from (d ∷ ds) es r = (r.0, rises_first (suc d.number) ds es r.1)

rise_less : (from less : ℕ) (ns : List ℕ) → less ≤ from → Rise from ns → Rise less ns
rise_less from less [] le r = tt
rise_less from less (n ∷ ns) le r = let h = r.0 in (omega (arith, h, le), r.1)

rises_second : (from : ℕ) (ds es : List Declared) → Rise from (numbers_of (ds ++ es)) → Rise from (numbers_of es)
rises_second from [] es r = r
rises_second from (d ∷ ds) es r = let h = r.0 in rise_less (suc d.number) from (numbers_of es) (omega (arith, h)) (rises_second (suc d.number) ds es r.1)

pub rise_apart : (from : ℕ) (ns ms : List ℕ) → Rise from (ns ++ ms) → (n : ℕ) → Member n ns → Member n ms → ⊥
rise_apart from ns ms r n a b = distinct_apart n ns ms (rise_distinct from (ns ++ ms) r) a b

-- places of two parts are different ones
pub numbers_apart : (from : ℕ) (ds es : List Declared) → Rise from (numbers_of (ds ++ es)) → (n : ℕ) → Member n (numbers_of ds) → Member n (numbers_of es) → ⊥
numbers_apart from [] es r n m q = elim m [ ]
numbers_apart from (d ∷ ds) es r n (inl e) q =
    let more = least (suc d.number) n (numbers_of (ds ++ es)) r.1 (numbers_second n ds es q) in omega (arith, more, e)
numbers_apart from (d ∷ ds) es r n (inr m) q = numbers_apart (suc d.number) ds es r.1 n m q

module _ {here : Here} {first places : ℕ} {scope : scopes.Here} {limits : Limits} where
  pub numbered_first : (ds es : List Declared) (ns ms : List ℕ) → Numbered here first places scope limits (ds ++ es) (ns ++ ms) →
      Numbered here first places scope limits ds ns
  numbered_first ds es ns ms h = record {
    from_node = h.from_node;
    nodes = rise_first h.from_node ns ms h.nodes;
    from_place = h.from_place;
    rises = rises_first h.from_place ds es h.rises;
    bounds = λ n m. h.bounds n (numbers_first n ds es m);
    none = λ g n ty seen e same m. h.none g n ty seen e same (numbers_first n ds es m);
  }

  pub numbered_second : (ds es : List Declared) (ns ms : List ℕ) → Numbered here first places scope limits (ds ++ es) (ns ++ ms) →
      Numbered here first places scope limits es ms
  numbered_second ds es ns ms h = record {
    from_node = h.from_node;
    nodes = rise_second h.from_node ns ms h.nodes;
    from_place = h.from_place;
    rises = rises_second h.from_place ds es h.rises;
    bounds = λ n m. h.bounds n (numbers_second n ds es m);
    none = λ g n ty seen e same m. h.none g n ty seen e same (numbers_second n ds es m);
  }

  -- behind its own node
  pub numbered_behind : (n : ℕ) {ds : List Declared} {ns : List ℕ} → Numbered here first places scope limits ds (n ∷ ns) →
      Numbered here first places scope limits ds ns
  numbered_behind n {ns = ns} h = record {
    from_node = h.from_node;
    nodes = rise_second h.from_node (n ∷ []) ns h.nodes;
    from_place = h.from_place;
    rises = h.rises;
    bounds = h.bounds;
    none = h.none;
  }

  -- a place that is declared isn't declared again
  pub place_new : (place : Declared) (ds : List Declared) {ns : List ℕ} → Numbered here first places scope limits (place ∷ ds) ns →
      Member place.number (numbers_of ds) → ⊥
  place_new place ds h m = let more = least (suc place.number) place.number (numbers_of ds) h.rises.1 m in omega (arith, more)

  -- in its scope
  pub numbered_in : (more : Limits) (place : Declared) (ds : List Declared) {ns : List ℕ} →
      ((g : Bool) (n : ℕ) → more.seen g n ≡ true → limits.seen g n ≡ true) → Numbered here first places scope limits (place ∷ ds) ns →
      Numbered here first places (with_place scope place) more ds ns
  numbered_in more place ds seen h = record {
    from_node = h.from_node;
    nodes = h.nodes;
    from_place = suc place.number;
    rises = h.rises.1;
    bounds = λ n m. h.bounds n (inr m);
    none = none;
  }
    where
      none : NoneNamed here (with_place scope place) more (numbers_of ds)
      none true n ty s e same m = h.none true n ty (seen true n s) e same (inr m)
      none false n ty s e same m = by (look_more scope.places (placed place) n ty e)
        where
          by : (look scope.places n ≡ Some ty) ⊎ ((place.number ≡ n) × (place.of ≡ ty)) → ⊥
          by (inl q) = h.none false n ty (seen false n s) q refl (inr m)
          by (inr q) = place_new place ds h (subst (λ k. Member k (numbers_of ds)) (sym q.0) m)

  -- where another place is in scope
  pub numbered_next : (next : scopes.Here) (place : Declared) (kind : Bool) (is_new : (global : Bool) → ℕ → Bool) →
      ((g : Bool) (n : ℕ) (ty : Ty) → type_in next g n ≡ Some ty → NewOrOld scope place kind is_new g n ty) → (ds : List Declared) {ns : List ℕ} →
      Numbered here first places scope limits (place ∷ ds) ns → Numbered here first places next limits ds ns
  numbered_next next place kind is_new view ds h = record {
    from_node = h.from_node;
    nodes = h.nodes;
    from_place = suc place.number;
    rises = h.rises.1;
    bounds = λ n m. h.bounds n (inr m);
    none = λ g n ty s e same m. by g n ty s same m (view g n ty e);
  }
    where
      by : (g : Bool) (n : ℕ) (ty : Ty) → limits.seen g n ≡ true → level_of g here ≡ here.level → Member n (numbers_of ds) →
          NewOrOld scope place kind is_new g n ty → ⊥
      by g n ty s same m (as_before r e) = h.none g n ty s e same (inr m)
      by g n ty s same m (a_new r q e t) = place_new place ds h (subst (λ k. Member k (numbers_of ds)) e m)
