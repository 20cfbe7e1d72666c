-- Places that stand in order: the first ones of a procedure are its parameters, and then its result.
use Rattle.std.proofs.Common.{◌≡◌, ◌⊎◌, inl, inr, ℕ, suc, ◌+◌, ◌<◌, ◌≤◌, List, [], ◌∷◌, ◌++◌, length, not, ◌&&◌}
use Rattle.std.proofs.Common.{map, Option, Some, None, Bool, true, false}
use Rattle.std.proofs.Common.{refl, sym, ap, subst, ◌∙◌, arith}
use Rattle.std.specs.Prelude.{nat_eq, if◌then◌else◌}
use Rattle.std.proofs.lemmas.Bool.{and_parts, eqb-true}
use Rattle.nim_types.specs.declared.types.TypeDef.{TypeDef}
use Rattle.nim_types.specs.Types.{Ty}
use Rattle.nim_types.specs.Table.{type_at, types_in, facts_in}
use Rattle.nim_meaning.specs.Values.{Slot, Holds, default_of}
use Rattle.flat_code.specs.declared.place.PlaceKind.{PlaceKind}
use Rattle.flat_code.specs.declared.place.PlaceKind.TheVariants as K
use Rattle.flat_code.specs.declared.place.FlatPlace.{FlatPlace}
use Rattle.flat_code.specs.declared.code.CodeProc.{CodeProc}
use Rattle.flat_code.specs.declared.block.BlockLine.{BlockLine}
use Rattle.flat_code.specs.declared.line.Line.{Line}
use Rattle.flat_code.specs.Codes.{block_plain}
use Rattle.flat_code.specs.Codes as codes
use Rattle.flat_code.specs.Scene.{known_in}
use Rattle.flat_code.specs.Shapes.{shape_of}
use Rattle.flat_code.specs.Fits.{signature_of, is_declared, is_own, type_by_kind, place_type, given_by, or_result, and_number}
use Rattle.flat_code.specs.Fits.{params_at, and_result, results_at, follow}
use Rattle.word_lowering.specs.declared.homes.TheConstants.{OWN_FROM}
use Rattle.word_lowering.specs.declared.homes.Housed.{Housed}
use Rattle.word_lowering.specs.declared.homes.Free.{Free}
use Rattle.word_lowering.specs.declared.texts.TheConstants.{FIXED_BYTES}
use Rattle.word_lowering.specs.Layouts.{housed, behind, all_housed, layout_of, free_at, found, params_in, result_in, is_param, is_result, kept_in, address_by}
use Rattle.word_lowering.specs.Layouts.{place_lent}
use Rattle.word_lowering.proofs.Options.{none_some, some_same}
use Rattle.word_lowering.proofs.HomesApart.{Each}
use Rattle.word_lowering.proofs.LayoutBounds.{IsBelow, IsParamBelow}
use Rattle.word_lowering.proofs.Sites.{Body, type_of, Among, There}
use Rattle.word_lowering.proofs.FirstPlaces.{AreFirst, ResultFirst, Orderly}

-- a parameter, or not
param_cases : (k : PlaceKind) (n : ℕ) (rest : List ℕ) → ((is_param k ≡ true) × (is_declared k ≡ true) × (and_number k n rest ≡ n ∷ rest))
    ⊎ ((is_param k ≡ false) × (and_number k n rest ≡ rest))
param_cases (K.Param mode) n rest = inl (refl, refl, refl)
param_cases k n rest = inr (refl, refl)

-- the result, or not
record NoResult (k : PlaceKind) : Type 0 where
  is : is_result k ≡ false
  number : (n : ℕ) (rest : List ℕ) → and_result k n rest ≡ rest
  slot : (slots rest : List Slot) → codes.if_result k slots rest ≡ rest
  ty : (t : Ty) (rest : Option Ty) → or_result k t rest ≡ rest

result_cases : (k : PlaceKind) → (k ≡ K.Result) ⊎ NoResult k
result_cases K.Result = inl refl
result_cases k = inr (record { is = refl; number = λ n rest. refl; slot = λ slots rest. refl; ty = λ t rest. refl })

module _ (table : List TypeDef) (start : Bool) (lines : List Line) (all : List Housed) (limit : ℕ)
    (once : (n : ℕ) (h : Housed) → Among h all → h.number ≡ n → is_declared h.kind ≡ true → found is_declared n all ≡ h) where
  abbrev some : Free → List FlatPlace → List Housed
  some free ps = all_housed table start lines free ps

  there_is : (n : ℕ) (h : Housed) → Among h all → h.number ≡ n → is_declared h.kind ≡ true → There all is_declared n
  there_is n h i e d = record {
    among = subst (λ z. Among z all) (sym (once n h i e d)) i;
    number = ap (λ (z : Housed). z.number) (once n h i e d) ∙ e;
    kind = ap (λ (z : Housed). is_declared z.kind) (once n h i e d) ∙ d;
  }

  record Params (n : ℕ) (hs : List Housed) (results : List ℕ) : Type 0 where
    first : AreFirst table all limit n hs
    rest : follow (n + length hs) results ≡ true

  params_first : (n : ℕ) (free : Free) (ps : List FlatPlace) (results : List ℕ) → follow n (params_at ps ++ results) ≡ true
      → Each (IsParamBelow limit) (some free ps) → ((h : Housed) → Among h (some free ps) → Among h all) → Params n (params_in (some free ps)) results
  params_first n free [] results f b up = record { first = tt; rest = subst (λ k. follow k results ≡ true) (omega arith) f }
  params_first n free (p ∷ ps) results f b up =
      by (param_cases p.kind p.number (params_at ps))
      (λ m h. params_first m (behind table start lines free p) ps results h b.1 (λ h i. up h (inr i)))
    where
      by : ((is_param p.kind ≡ true) × (is_declared p.kind ≡ true) × (and_number p.kind p.number (params_at ps) ≡ p.number ∷ params_at ps))
          ⊎ ((is_param p.kind ≡ false) × (and_number p.kind p.number (params_at ps) ≡ params_at ps))
          → ((m : ℕ) → follow m (params_at ps ++ results) ≡ true → Params m (params_in (some (behind table start lines free p) ps)) results)
          → Params n (params_in (some free (p ∷ ps))) results
      by (inr c) go =
          let r = go n (subst (λ l. follow n (l ++ results) ≡ true) c.1 f) in
          subst (λ t. Params n (if t then housed table start lines free p ∷ params_in (some (behind table start lines free p) ps)
          else params_in (some (behind table start lines free p) ps)) results) (sym c.0) r
      by (inl c) go =
          let g = and_parts (nat_eq p.number n) (follow (suc n) (params_at ps ++ results)) (subst (λ l. follow n (l ++ results) ≡ true) c.2 f) in
          let e : p.number ≡ n = eqb-true p.number n g.0 in
          let r = go (suc n) g.1 in
          let i : Among (housed table start lines free p) all = up (housed table start lines free p) (inl refl) in
          subst (λ t. Params n (if t then housed table start lines free p ∷ params_in (some (behind table start lines free p) ps)
          else params_in (some (behind table start lines free p) ps)) results) (sym c.0) (record {
            first = (
              record {
                same = once n (housed table start lines free p) i e c.1;
                there = there_is n (housed table start lines free p) i e c.1;
                below = λ v home. subst (IsBelow limit) home (b.0 c.0);
              },
              r.first,
            );
            rest = subst (λ k. follow k results ≡ true) (omega arith) r.rest;
          })

  -- so many fit in the frame
  params_end : (last n : ℕ) (hs : List Housed) → ((m : ℕ) → There all is_declared m → m < last) → n ≤ last → AreFirst table all limit n hs
      → n + length hs ≤ last
  params_end last n [] within le f = omega (arith, le)
  params_end last n (h ∷ hs) within le f =
      let w = within n f.0.there in
      let r = params_end last (suc n) hs within (omega (arith, w)) f.1 in
      omega (arith, r)

  record ResultHere (n : ℕ) (free : Free) (ps : List FlatPlace) : Type 0 where
    first : ResultFirst table all n (result_in (some free ps)) (codes.result_in (known_in table) ps)
    gives : (t : Ty) → given_by (known_in table) ps ≡ Some t → (r : Housed) × (result_in (some free ps) ≡ Some r) × (type_of table r ≡ t)

  result_first : (n : ℕ) (free : Free) (ps : List FlatPlace) → follow n (results_at ps) ≡ true
      → ((h : Housed) → Among h (some free ps) → Among h all) → ResultHere n free ps
  result_first n free [] f up = record { first = refl; gives = λ t e. absurd (none_some t e) }
  result_first n free (p ∷ ps) f up =
      by (result_cases p.kind) (λ h. result_first n (behind table start lines free p) ps h (λ h i. up h (inr i)))
    where
      by : (p.kind ≡ K.Result) ⊎ NoResult p.kind
          → (follow n (results_at ps) ≡ true → ResultHere n (behind table start lines free p) ps) → ResultHere n free (p ∷ ps)
      by (inr c) go =
          let r = go (subst (λ l. follow n l ≡ true) (c.number p.number (results_at ps)) f) in
          let same : result_in (some free (p ∷ ps)) ≡ result_in (some (behind table start lines free p) ps)
          = ap (λ t. if t then Some (housed table start lines free p) else result_in (some (behind table start lines free p) ps)) c.is in
          record {
            first = subst (λ o. ResultFirst table all n o (codes.result_in (known_in table) (p ∷ ps))) (sym same)
                (subst (ResultFirst table all n (result_in (some (behind table start lines free p) ps)))
                (sym (c.slot (Holds (default_of (facts_in table) (type_at (types_in table) p.ty)) ∷ []) (codes.result_in (known_in table) ps))) r.first);
            gives = λ t e. let g = r.gives t (sym (c.ty (place_type (known_in table) p) (given_by (known_in table) ps)) ∙ e) in
                (g.0, same ∙ g.1, g.2);
          }
      by (inl c) go =
          let same : result_in (some free (p ∷ ps)) ≡ Some (housed table start lines free p)
          = ap (λ k. if is_result k then Some (housed table start lines free p) else result_in (some (behind table start lines free p) ps)) c in
          let g = and_parts (nat_eq p.number n) (follow (suc n) (results_at ps))
          (subst (λ k. follow n (and_result k p.number (results_at ps)) ≡ true) c f) in
          let e : p.number ≡ n = eqb-true p.number n g.0 in
          let i : Among (housed table start lines free p) all = up (housed table start lines free p) (inl refl) in
          let d : is_declared p.kind ≡ true = ap is_declared c in
          record {
            first = subst (λ o. ResultFirst table all n o (codes.result_in (known_in table) (p ∷ ps))) (sym same) (record {
              same = once n (housed table start lines free p) i e d;
              there = there_is n (housed table start lines free p) i e d;
              own = ap (λ k. is_own k && not (address_by (place_lent table start lines p) k)) c;
              look = ap (λ k. shape_of (facts_in table) (type_by_kind k (type_at (types_in table) p.ty))) c;
              slots = ap (λ k. codes.if_result k (Holds (default_of (facts_in table) (type_at (types_in table) p.ty)) ∷ [])
                  (codes.result_in (known_in table) ps)) c;
            });
            gives = λ t h. (
              housed table start lines free p,
              same,
              some_same (place_type (known_in table) p) t
                  (sym (ap (λ k. or_result k (place_type (known_in table) p) (given_by (known_in table) ps)) c) ∙ h),
            );
          }

module _ (table : List TypeDef) (start : Bool) (proc : CodeProc BlockLine) (literals number : ℕ) where
  abbrev body : Body
  body = record {
    own = layout_of table start FIXED_BYTES proc;
    start = start;
    literals = literals;
    number = number;
    proc = proc;
  }

  abbrev all : List Housed
  all = body.own.all

  abbrev last_kept : ℕ
  last_kept = OWN_FROM + kept_in (params_in all)

  abbrev number_behind : ℕ
  number_behind = proc.first + length (params_in all)

  -- each number stands for one declared place, and those are among the places of the call
  pub orderly : ((n : ℕ) (h : Housed) → Among h all → h.number ≡ n → is_declared h.kind ≡ true → found is_declared n all ≡ h)
      → ((n : ℕ) → There all is_declared n → (proc.first ≤ n) × (n < proc.first + proc.span))
      → follow proc.first (params_at proc.places ++ results_at proc.places) ≡ true → Each (IsParamBelow last_kept) all
      → Orderly table body (signature_of (known_in table) proc.places)
  orderly once inside f below =
      let lines : List Line = map block_plain proc.lines in
      let p = params_first table start lines all last_kept once proc.first (free_at FIXED_BYTES) proc.places (results_at proc.places) f below (λ h i. i) in
      let r = result_first table start lines all last_kept once number_behind (free_at FIXED_BYTES) proc.places p.rest (λ h i. i) in
      record {
        params = p.first;
        result = r.first;
        few = few (result_in all) (codes.result_in (known_in table) proc.places) r.first
            (params_end table start lines all last_kept once (proc.first + proc.span) proc.first (params_in all)
            (λ m t. (inside m t).1) (omega arith) p.first);
        gives = λ t e. let g = r.gives t e in record { result = g.0; is = g.1; typed = g.2 };
      }
    where
      few : (o : Option Housed) (slots : List Slot) → ResultFirst table all number_behind o slots → number_behind ≤ proc.first + proc.span
          → length (params_in all) + length slots ≤ proc.span
      few None slots none le = let e = ap length none in omega (arith, e, le)
      few (Some h) slots here le = let e = ap length here.slots in let i = (inside number_behind here.there).1 in omega (arith, e, i)
