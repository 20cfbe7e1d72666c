-- Types of what a line names, where that has hooks: hooks are called for their values.
use Rattle.std.proofs.Common.{◌≡◌, ℕ, ◌≤◌, length, Some, true, false, sym, ap, subst, ◌∙◌}
use Rattle.std.specs.Prelude.{nat_le, nat_lt, not, ◌&&◌}
use Rattle.std.proofs.lemmas.Bool.{and_parts, leb-true, not-true}
use Rattle.nim_types.specs.Forms.{form_of, hooked, levels}
use Rattle.nim_types.specs.Table.{facts_in, type_at, types_in}
use Rattle.nim_types.specs.Types.{Ty}
use Rattle.nim_meaning.specs.Unbuilt.{is_unbuilt}
use Rattle.flat_code.specs.declared.place.PlaceKind.{PlaceKind}
use Rattle.flat_code.specs.declared.place.PlaceKind.TheVariants as K
use Rattle.flat_code.specs.Fits.{type_by_kind}
use Rattle.word_lowering.specs.declared.homes.Housed.{Housed}
use Rattle.word_lowering.specs.MayLower.{is_known}
use Rattle.word_lowering.specs.Stored.{is_hooked}
use Rattle.word_lowering.proofs.HookedTypes.{HookedType, hooked_type}
use Rattle.word_lowering.proofs.Lines.{Basis}
use Rattle.word_lowering.proofs.Scenes.{Name, kind_in, number_in, row_of}
use Rattle.word_lowering.proofs.ShapeFacts.{never}
use Rattle.word_lowering.proofs.Sites.{Among, IsBody, Site, type_of}
use Rattle.word_lowering.proofs.ValueFacts.{has_type, type_in}

module _ (x : Basis) where
  known_by : (kind : PlaceKind) (n : ℕ) → is_known x.table n kind ≡ true → (t : Ty) → type_by_kind kind (type_at (types_in x.table) n) ≡ t
      → hooked (form_of (facts_in x.table) t) ≡ true
      → (is_unbuilt (facts_in x.table) t ≡ false) × (levels (form_of (facts_in x.table) t) ≤ 64)
  known_by K.Counter n k t e h = never (ap (λ s. hooked (form_of (facts_in x.table) s)) e ∙ h)
  known_by kind n k t e h =
      let of : Ty = type_at (types_in x.table) n in
      let p = and_parts (nat_lt n (length x.table)) (not (is_unbuilt (facts_in x.table) of) && nat_le (levels (form_of (facts_in x.table) of)) 64) k in
      let q = and_parts (not (is_unbuilt (facts_in x.table) of)) (nat_le (levels (form_of (facts_in x.table) of)) 64) p.1 in
      subst (λ s. (is_unbuilt (facts_in x.table) s ≡ false) × (levels (form_of (facts_in x.table) s) ≤ 64)) e
      (not-true (is_unbuilt (facts_in x.table) of) q.0, leb-true (levels (form_of (facts_in x.table) of)) 64 q.1)

  -- by what is known of a type
  pub hooked_known : (k : ℕ) → is_known x.table k K.Temp ≡ true → (n : ℕ) → type_at (types_in x.table) k ≡ type_at (types_in x.table) n
      → is_hooked x.table n ≡ true → HookedType x n
  hooked_known k known n e is =
      let p = known_by K.Temp k known (type_at (types_in x.table) n) e (sym (x.hooks n) ∙ is) in hooked_type x n is p.0 p.1

  -- of a place of a body
  pub hooked_among : (s : Site) → IsBody x.table x.blocks s.body → (h : Housed) → Among h s.body.own.all → (n : ℕ)
      → type_of x.table h ≡ type_at (types_in x.table) n → is_hooked x.table n ≡ true → HookedType x n
  hooked_among s body h among n typed is =
      let p = known_by h.kind h.ty (body.known h among) (type_at (types_in x.table) n) typed (sym (x.hooks n) ∙ is) in hooked_type x n is p.0 p.1

  -- of a name
  pub hooked_named : (s : Site) → IsBody x.table x.blocks s.body → (name : Name) (n : ℕ)
      → type_in x (kind_in name) s.body (number_in name) ≡ Some (type_at (types_in x.table) n) → is_hooked x.table n ≡ true → HookedType x n
  hooked_named s body name n typed is =
      let m = has_type x s name (type_at (types_in x.table) n) body typed in
      hooked_among s body (row_of s name) m.named.among n m.typed is
