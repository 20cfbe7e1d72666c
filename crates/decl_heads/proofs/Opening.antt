-- Parameters that are declared one after another.
use Rattle.std.proofs.Common.{◌≡◌, ℕ, zero, suc, ◌+◌, ◌<◌, ◌≤◌, List, [], ◌∷◌, ◌++◌}
use Rattle.std.proofs.Common.{length, map, take, get_or, refl, sym, ap, ap₂, ◌∙◌, subst, arith}
use Rattle.std.proofs.Common.{append-nil, append_assoc, length-append, Bool, true, false}
use Rattle.std.specs.Prelude.{◌||◌}
use Rattle.std.proofs.lemmas.List.{take_more, map-append}
use Rattle.arc_base.specs.declared.place.Place.{Place}
use Rattle.nim_tree.specs.declared.name.Name.{Name}
use Rattle.nim_types.specs.Types.{Ty}
use Rattle.nim_types.specs.Table.{type_at}
use Rattle.nim_program.specs.declared.program.Mode.{Mode}
use Rattle.nim_program.specs.declared.program.Param.{Param}
use Rattle.expr_rules.specs.Answers.{Answer}
use Rattle.expr_rules.specs.Env.{Entry}
use Rattle.expr_parts.specs.declared.scope.Decl.{Decl}
use Rattle.expr_parts.specs.declared.scope.Scope.{Scope}
use Rattle.expr_parts.specs.View.{entry_of, WhatWithin}
use Rattle.decl_rules.specs.State.{State, with_entries}
use Rattle.decl_rules.specs.Heads.{Given, parameter_entry, parameter_entries, with_parameters, group_names, given_as}
use Rattle.decl_parts.specs.declared.state.State.{State as RustState}
use Rattle.decl_parts.specs.View.{Beside, state_of, Ready, own_names}
use Rattle.decl_parts.proofs.ForCallers.{decls_both}
use Rattle.decl_heads.specs.ViewHeads.{given_of, GivenWithin, AreNumbered, Extends, Declares}

-- ---- names

pub turned : (a b c : Bool) → (a || (b || c)) ≡ ((a || b) || c)
turned true b c = refl
turned false b c = refl

-- the names of a group that are left
pub record GroupLeft (outside : ℕ) (ds : List Decl) (st : State) (result : Bool) (names : List Name) (whole : Answer (Unit {0})) : Type 0 where
  pub before : List (List ℕ)
  pub own : own_names outside ds st before
  pub rest : whole ≡ group_names st result before names

abbrev pub given_from : Place → List ℕ → Mode → Ty → Given
given_from at text mode ty = record { name = record { at = at; text = text }; mode = mode; of = ty }

-- ---- parameters one after another

entries_more : (place : ℕ) (xs ys : List Given) → parameter_entries place (xs ++ ys) ≡ parameter_entries place xs ++ parameter_entries
    (place + length xs) ys
entries_more place [] ys = let e : place ≡ place + 0 = omega arith in ap (λ n. parameter_entries n ys) e
entries_more place (x ∷ xs) ys =
    let e : suc place + length xs ≡ place + suc (length xs) = omega arith in
    ap (λ l. parameter_entry place x ∷ l) (entries_more (suc place) xs ys ∙ ap (λ n. parameter_entries (suc place) xs ++ parameter_entries n ys) e)

-- those that are declared behind others
pub with_more : (st : State) (xs ys : List Given) → with_parameters (with_parameters st xs) ys ≡ with_parameters st (xs ++ ys)
with_more st xs ys =
    let n : (st.place + length xs) + length ys ≡ st.place + length (xs ++ ys) = omega (arith, length-append xs ys) in
    ap₂ (λ (es : List Entry) (k : ℕ). record (with_entries st es) { place = k })
    (append_assoc st.env.entries (parameter_entries st.place xs) (parameter_entries (st.place + length xs) ys)
    ∙ ap (λ l. st.env.entries ++ l) (sym (entries_more st.place xs ys))) n

pub with_none : (st : State) → with_parameters st [] ≡ st
with_none st =
    let n : st.place + 0 ≡ st.place = omega arith in
    ap₂ (λ (es : List Entry) (k : ℕ). record (with_entries st es) { place = k }) (append-nil st.env.entries) n

-- ---- states

pub extends_same : (s : RustState) → Ready s → Extends s s
extends_same s h = record { begins = ([], sym (append-nil s.scope.decls)); frame = refl; ready = h }

pub extends_on : {a b c : RustState} → Extends a b → Extends b c → Extends a c
extends_on {a = a} {b = b} {c = c} f g = record {
  begins = (
    f.begins.0 ++ g.begins.0,
    g.begins.1 ∙ ap (λ l. l ++ g.begins.0) f.begins.1 ∙ append_assoc a.scope.decls f.begins.0 g.begins.0,
  );
  frame = g.frame
      ∙ ap (λ (s : RustState). record s { types = c.types; scope = record s.scope { decls = c.scope.decls }; place = c.place }) f.frame;
  ready = g.ready;
}

pub declares_none : (s : RustState) → Declares s s (λ ts st. with_parameters st (map (given_of ts) []))
declares_none s = record { extends = λ h. extends_same s h; view = λ ts b. sym (with_none (state_of ts b s)) }

-- with one parameter more
pub declares_more : {a b c : RustState} (xs : List Param) (x : Param) (all : List Param) → all ≡ xs ++ x ∷ []
    → Declares a b (λ ts st. with_parameters st (map (given_of ts) xs)) → Declares b c (λ ts st. with_parameters st (given_of ts x ∷ []))
    → Declares a c (λ ts st. with_parameters st (map (given_of ts) all))
declares_more {a = a} xs x all e f g = record {
  extends = λ h. let m = f.extends h in extends_on m (g.extends m.ready);
  view = λ ts b.
      g.view ts b
      ∙ ap (λ st. with_parameters st (given_of ts x ∷ [])) (f.view ts b)
      ∙ with_more (state_of ts b a) (map (given_of ts) xs) (given_of ts x ∷ [])
      ∙ ap (with_parameters (state_of ts b a)) (sym (ap (map (given_of ts)) e ∙ map-append (given_of ts) xs (x ∷ [])));
}

-- a state with one declaration more, and the next place
pub one_declared : (old new : RustState) (d : Decl) (p : Param) (next : ℕ) (scope : Scope) → new ≡ record old { scope = scope; place = next }
    → scope.decls ≡ old.scope.decls ++ d ∷ [] → scope.kinds ≡ old.scope.kinds → scope.home ≡ old.scope.home → next ≡ suc old.place
    → ((ts : List Ty) → entry_of ts d ≡ parameter_entry old.place (given_of ts p)) → WhatWithin (length old.types) d.what
    → Declares old new (λ ts st. with_parameters st (given_of ts p ∷ []))
one_declared old new d p next scope is e k h n entry within =
    subst (λ (s : RustState). Declares old s (λ ts st. with_parameters st (given_of ts p ∷ [])))
    (sym (is ∙ ap₂ (λ (z : Scope) (m : ℕ). record old { scope = z; place = m }) same n))
    (record { extends = λ r. extends r; view = view })
  where
    more : List Decl
    more = old.scope.decls ++ d ∷ []

    same : scope ≡ record old.scope { decls = more }
    same = λ i. record { decls = e i; kinds = k i; home = h i }

    longer : (ds : List Decl) (d : Decl) → length ds ≤ length (ds ++ d ∷ [])
    longer [] d = omega arith
    longer (x ∷ ds) d = let l = longer ds d in omega (arith, l)

    extends : Ready old → Extends old (record old { scope = record old.scope { decls = more }; place = suc old.place })
    extends r = record {
      begins = (d ∷ [], refl);
      frame = refl;
      ready = record {
        all = record { formed = r.all.formed; kinds = r.all.kinds; decls = decls_both (length old.types) old.scope.decls (d ∷ []) r.all.decls (within, tt) };
        outside = let le = r.outside in let l = longer old.scope.decls d in omega (arith, le, l);
      };
    }

    view : (ts : List Ty) (b : Beside) → state_of ts b (record old { scope = record old.scope { decls = more }; place = suc old.place })
        ≡ with_parameters (state_of ts b old) (given_of ts p ∷ [])
    view ts b =
        let one : suc old.place ≡ old.place + 1 = omega arith in
        ap₂ (λ (es : List Entry) (m : ℕ). record (with_entries (state_of ts b old) es) { place = m })
        (map-append (entry_of ts) old.scope.decls (d ∷ []) ∙ ap (λ x. map (entry_of ts) old.scope.decls ++ x ∷ []) (entry ts)) one

-- ---- loops over parameters

pub take_one : {X : Type 0} (xs : List X) (i : ℕ) (x : X) → x ≡ get_or xs i x → i < length xs → take (i + 1) xs ≡ take i xs ++ x ∷ []
take_one xs i x e h = take_more xs i x h ∙ ap (λ y. take i xs ++ y ∷ []) (sym e)

pub within_at : (n : ℕ) (ps : List Param) (i : ℕ) (p : Param) → p ≡ get_or ps i p → i < length ps → GivenWithin n ps → p.place.ty < n
within_at n [] i p e h w = absurd (omega (arith, h))
within_at n (x ∷ ps) zero p e h w = subst (λ (y : Param). y.place.ty < n) (sym e) w.0
within_at n (x ∷ ps) (suc i) p e h w = within_at n ps i p e (omega (arith, h)) w.1

within_last : (n : ℕ) (ps : List Param) (p : Param) → GivenWithin n ps → p.place.ty < n → GivenWithin n (ps ++ p ∷ [])
within_last n [] p h l = (l, tt)
within_last n (x ∷ ps) p h l = (h.0, within_last n ps p h.1 l)

numbered_last : (first n : ℕ) (ps : List Param) (p : Param) → AreNumbered first ps → n ≡ first + length ps → p.place.number ≡ n
    → AreNumbered first (ps ++ p ∷ [])
numbered_last first n [] p h e is = (let e' : n ≡ first = omega (arith, e) in is ∙ e', tt)
numbered_last first n (x ∷ ps) p h e is = (h.0, numbered_last (suc first) n ps p h.1 (omega (arith, e)) is)

-- parameters of a group so far
pub record Made (first : ℕ) (ty : ℕ) (mode : Mode) (number : ℕ) (done : List Param) (rest names : List Name) : Type 0 where
  pub given : (ts : List Ty) → map (given_of ts) done ++ given_as rest mode (type_at ts ty) ≡ given_as names mode (type_at ts ty)
  pub within : (n : ℕ) → ty < n → GivenWithin n done
  pub numbered : AreNumbered first done
  pub next : number ≡ first + length done

pub made_none : (first ty : ℕ) (mode : Mode) (done : List Param) (names : List Name) → done ≡ [] → Made first ty mode first done names names
made_none first ty mode done names e =
    subst (λ (d : List Param). Made first ty mode first d names names) (sym e) (record {
      given = λ ts. refl;
      within = λ n l. tt;
      numbered = tt;
      next = omega arith;
    })

pub made_more : (first ty : ℕ) (mode : Mode) (number next : ℕ) (done : List Param) (p : Param) (more : List Param) (x : Name) (rest names : List Name)
    (left : List Name) → left ≡ x ∷ rest → more ≡ done ++ p ∷ [] → next ≡ suc number → p.place.number ≡ number → p.place.ty ≡ ty
    → ((ts : List Ty) → given_of ts p ≡ record { name = x; mode = mode; of = type_at ts ty })
    → Made first ty mode number done left names → Made first ty mode next more rest names
made_more first ty mode number next done p more x rest names left le me ne is ie g m =
    subst (λ (d : List Param). Made first ty mode next d rest names) (sym me) (record {
      given = λ ts.
          ap (λ l. l ++ given_as rest mode (type_at ts ty)) (map-append (given_of ts) done (p ∷ []))
          ∙ append_assoc (map (given_of ts) done) (given_of ts p ∷ []) (given_as rest mode (type_at ts ty))
          ∙ ap (λ y. map (given_of ts) done ++ y ∷ given_as rest mode (type_at ts ty)) (g ts)
          ∙ ap (λ (l : List Name). map (given_of ts) done ++ given_as l mode (type_at ts ty)) (sym le)
          ∙ m.given ts;
      within = λ n l. within_last n done p (m.within n l) (subst (λ k. k < n) (sym ie) l);
      numbered = numbered_last first number done p m.numbered m.next is;
      next = let e = m.next in let l = longer done p in omega (arith, e, ne, l);
    })
  where
    longer : (ps : List Param) (p : Param) → length (ps ++ p ∷ []) ≡ suc (length ps)
    longer [] p = refl
    longer (y ∷ ps) p = ap suc (longer ps p)

pub made_all : (first ty : ℕ) (mode : Mode) (number : ℕ) (done : List Param) (rest names : List Name) → rest ≡ []
    → Made first ty mode number done rest names
    → (ts : List Ty) → map (given_of ts) done ≡ given_as names mode (type_at ts ty)
made_all first ty mode number done rest names e m ts =
    sym (append-nil (map (given_of ts) done)) ∙ ap (λ (l : List Name). map (given_of ts) done ++ given_as l mode (type_at ts ty)) (sym e) ∙ m.given ts
