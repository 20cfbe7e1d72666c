-- What rows of the table do with places: they read and write what their operands lead to, and nothing else.
use Rattle.std.proofs.Common.{◌≡◌, refl, sym, ap, ap₂, subst, ◌∙◌, inl, inr, ◌⊎◌, ℕ, zero, suc, Bool, true, false, ◌||◌, List, [], ◌∷◌, ◌++◌, length}
use Rattle.std.proofs.Common.{◌&&◌, Option, Some, None}
use Rattle.std.specs.Prelude.{slice_get}
use Rattle.std.proofs.lemmas.Bool.{false≢true}
use Rattle.arc_base.specs.declared.outside.Stream.TheVariants.{Out as Output}
use Rattle.nim_types.specs.Types.{Ty, Facts, text}
use Rattle.nim_types.specs.Forms.{Form}
use Rattle.nim_program.specs.Kinds.{below_distinct}
use Rattle.nim_plan.specs.declared.plan.Act.{Act}
use Rattle.nim_plan.specs.declared.plan.Plan.{Plan}
use Rattle.nim_program.specs.declared.operation.Operation.{Operation}
use Rattle.nim_program.specs.declared.operation.Operation.TheVariants as O
use Rattle.nim_program.specs.declared.operation.Use.TheVariants.{Lent}
use Rattle.nim_program.specs.Ints.{Checked, Fine, Trapped, applied, applied_to, within}
use Rattle.nim_program.specs.Program as T
use Rattle.nim_program.specs.Program.{Doing, Building, Giving, Calling, Literal}
use Rattle.nim_meaning.specs.Values.{Value, Number, Parts, Handle, Fixed, Ref, Resource, Gone, Vacant, nothing, number_of, length_of, text_in, bytes, is_full}
use Rattle.nim_meaning.specs.Values.{Location}
use Rattle.nim_meaning.specs.Values.{Base, Standing, Waiting, InBlock, InHand, InException, Made, Operand, value, location, location_of, literal_value}
use Rattle.nim_meaning.specs.Heap.{Heap, block_at}
use Rattle.nim_meaning.specs.State.{World, load, text_of, contents_value, is_so_in, has_as_many, has_item, is_whole, leads_from, is_there, is_seen, is_full_at}
use Rattle.nim_meaning.specs.Acts.{line_of}
use Rattle.nim_meaning.specs.Texts.{value_text, text_at, texts_of, are_seen}
use Rattle.nim_meaning.specs.ActTree.{Path, Operands, Operate}
use Rattle.nim_meaning.specs.Here.{gives_hooked, any_hooked, form_for}
use Rattle.nim_meaning.specs.Deeds.{Deed, Errs, Gives, Works, Changes, Stores, ◌>>=◌, ◌>>◌, give, branch, looks, unless_gone, sees, takes, sets, write}
use Rattle.nim_meaning.specs.Places.{Destination, taken_by, text_for, made_by, kept_if, fetched, may_change, changes, put, exchanged}
use Rattle.nim_meaning.specs.OwnedRows.{owned}
use Rattle.nim_meaning.specs.Table.{outcome, default_for, limit_for, converted, measured, step_by, operate, does, constant_for, literal_bytes, acts}
use Rattle.nim_meaning.specs.ActsOf.{path_of, act_by}
use Rattle.nim_meaning.specs.Meaning.{row, got_by, handed_by}
use Rattle.nim_meaning.specs.Steps.{kept_by}
use Rattle.nim_meaning.specs.AtPoints.{Alike, Within, Writes, answers, ends_run, at_fault, works, says, looks_at_all, stores, At_none, At_first, At_any, DoneAs}
use Rattle.nim_meaning.specs.AtPoints.{operates, looks_at, gives_to, goes_on_as, writes_first, looks_at_blocks, never_goes_on, writes_there}
use Rattle.nim_meaning.specs.AtPoints.{paths_among}

-- the paths of operands by path, each at its position
abbrev pub paths_in : T.Args → List (Option Path)
paths_in T.NoArg = []
paths_in (T.ByValue value rest) = None ∷ paths_in rest
paths_in (T.ByPath path rest) = Some (path_of path) ∷ paths_in rest

-- the location of an operand is one of theirs
at_any : (xs : List Operand) (i : ℕ) → At_any xs (location xs i)
at_any [] i = refl
at_any (x ∷ xs) zero = inl refl
at_any (x ∷ xs) (suc i) = inr (at_any xs i)

abbrev is_assign : Operation → Bool
is_assign O.Assign = true
is_assign o = false

abbrev is_measure : Operation → Bool
is_measure (O.Measure measure) = true
is_measure o = false

-- a value without hooks waits nowhere
within_made : (reads writes : Location → Type 0) (hook : Bool) (to : Destination) (v : Value) → hook ≡ false → Within Value reads writes (made_by hook to v)
within_made reads writes true to v e = absurd (false≢true (sym e))
within_made reads writes false to v e = answers

within_kept : (reads writes : Location → Type 0) (hook : Bool) (to : Destination) (v : Value) → hook ≡ false → Within Value reads writes (kept_if hook to v)
within_kept reads writes true to v e = absurd (false≢true (sym e))
within_kept reads writes false to v e = answers

within_kept_by : (reads writes : Location → Type 0) (act : T.Act) (hook : Bool) (to : Destination) (v : Value) → hook ≡ false →
    Within Value reads writes (kept_by act hook to v)
within_kept_by reads writes (Giving literal) hook to v e = within_made reads writes hook to v e
within_kept_by reads writes (Doing operation) hook to v e = within_kept reads writes hook to v e
within_kept_by reads writes (Building fields) hook to v e = within_kept reads writes hook to v e
within_kept_by reads writes (Calling proc types) hook to v e = within_kept reads writes hook to v e

-- ---- blocks are the same

leads_alike : (base : Base) (path : List ℕ) (a b : World) → a.heap ≡ b.heap → leads_from a base path ≡ leads_from b base path
leads_alike (InBlock k) path a b e = ap (λ (heap : Heap). is_so_in (has_item path) (slice_get heap.blocks k)) e
leads_alike (Standing level number) path a b e = refl
leads_alike (Waiting level node) path a b e = refl
leads_alike (InHand i) path a b e = refl
leads_alike (InException i) path a b e = refl
leads_alike (Made v) path a b e = refl

there_alike : (l : Location) (a b : World) → a.heap ≡ b.heap → is_there a l ≡ is_there b l
there_alike l a b e = leads_alike l.base l.path a b e

whole_alike : (v : Value) (a b : World) → a.heap ≡ b.heap → is_whole a v ≡ is_whole b v
whole_alike (Handle n (Some k)) a b e = ap (λ (heap : Heap). is_so_in (has_as_many n) (slice_get heap.blocks k)) e
whole_alike (Handle n None) a b e = refl
whole_alike (Number z) a b e = refl
whole_alike (Parts all) a b e = refl
whole_alike (Fixed t) a b e = refl
whole_alike (Ref object) a b e = refl
whole_alike (Resource all identity) a b e = refl
whole_alike (Gone v final) a b e = refl
whole_alike Vacant a b e = refl

module _ (reads writes : Location → Type 0) where
  abbrev W : {A : Type 0} → Deed A → Type 0
  W {A} deed = Within A reads writes deed

  pub within_then : {A B : Type 0} {deed : Deed A} {go : A → Deed B} → W deed → ((x : A) → W (go x)) → W (deed >>= go)
  within_then (answers {x = x}) g = g x
  within_then (ends_run) g = ends_run
  within_then (works w) g = works (within_then w g)
  within_then (says w) g = says (within_then w g)
  within_then at_fault g = at_fault
  within_then {go = go} (looks_at_all {rest = rest} same w) g =
      looks_at_all {rest = λ world. rest world >>= go} (λ a b h. ap (λ deed. deed >>= go) (same a b h)) (λ world. within_then (w world) g)
  within_then (stores h w) g = stores h (within_then w g)

  -- an outcome, or a trap
  within_outcome : (checked : Checked) → W (outcome checked)
  within_outcome (Fine z) = answers
  within_outcome (Trapped trap) = works (says ends_run)

  within_converted : (limit : Option ℕ) (v : Value) → W (converted limit v)
  within_converted None v = answers
  within_converted (Some values) v = within_outcome (within values (number_of v))

  -- ---- what is there

  guarded : {A : Type 0} {deed : Deed A} (b : Bool) → W deed → W (unless_gone b deed)
  guarded true w = w
  guarded false w = at_fault

  seen_alike : (l : Location) (a b : World) → Alike reads a b → reads l → is_seen a l ≡ is_seen b l
  seen_alike l a b h r = ap₂ (λ x y. x && y) (there_alike l a b h.0) (whole_alike (load a l) a b h.0 ∙ ap (is_whole b) (h.1 l r))

  within_sees : {A : Type 0} (l : Location) (go : Value → Deed A) → reads l → ((v : Value) → W (go v)) → W (sees l (λ world. go))
  within_sees l go r w =
      looks_at_all {rest = λ world. unless_gone (is_seen world l) (go (load world l))}
      (λ a b h. ap₂ (λ s v. unless_gone s (go v)) (seen_alike l a b h r) (h.1 l r)) (λ world. guarded (is_seen world l) (w (load world l)))

  full_alike : (l : Location) (a b : World) → Alike reads a b → reads l → is_full_at a l ≡ is_full_at b l
  full_alike l a b h r = ap₂ (λ x y. x && y) (seen_alike l a b h r) (ap is_full (h.1 l r))

  within_takes : {A : Type 0} (l : Location) (go : Value → Deed A) → reads l → ((v : Value) → W (go v)) → W (takes l (λ world. go))
  within_takes l go r w =
      looks_at_all {rest = λ world. unless_gone (is_full_at world l) (go (load world l))}
      (λ a b h. ap₂ (λ s v. unless_gone s (go v)) (full_alike l a b h r) (h.1 l r)) (λ world. guarded (is_full_at world l) (w (load world l)))

  within_sets : (l : Location) (v : Value) → writes l → W (sets l v)
  within_sets l v w =
      looks_at_all {rest = λ world. unless_gone (is_there world l) (Changes (Stores l v) (Gives tt))}
      (λ a b h. ap (λ s. unless_gone s (Changes (Stores l v) (Gives tt))) (there_alike l a b h.0)) (λ world. guarded (is_there world l) (stores w answers))

  within_changes : (l : Location) (v : Value) → writes l → W (changes l v)
  within_changes l v w = guarded (may_change l.base) (within_sets l v w)

  within_put : (l : Location) (v : Value) → writes l → W (put l v)
  within_put l v w = works (within_then {go = λ u. give nothing} (within_changes l v w) (λ u. answers {x = nothing}))

  within_exchanged : (l : Location) (v : Value) → reads l → writes l → W (exchanged l v)
  within_exchanged l v r w =
      works (within_takes l (λ old. changes l v >> give old) r (λ old. within_then {go = λ u. give old} (within_changes l v w) (λ u. answers {x = old})))

  -- a row, and what becomes of its value
  pub within_row : (facts : Facts) (act : T.Act) (to : Destination) (ty : Option Ty) (of : List (Option Ty)) (xs : List Operand) →
      gives_hooked facts ty ≡ false → W (acts act facts ty of xs) → W (row facts act to ty of xs)
  within_row facts act to ty of xs e w = within_then w (λ v. within_kept_by reads writes act _ to v e)

-- the bits at a location are read there
pub within_fetched : (location : Location) → Within Value (λ l. l ≡ location) At_none (fetched location)
within_fetched location = within_takes (λ l. l ≡ location) At_none location (λ v. Works (bytes v) (Gives v)) refl (λ v. works answers)

taken_within : (hook : Bool) (f : Form) (to : Destination) (act : Option Act) (location : Location) → hook ≡ false →
    Within Value (λ l. l ≡ location) At_none (taken_by hook f to act location)
taken_within true f to act location e = absurd (false≢true (sym e))
taken_within false f to act location e = within_fetched location

pub within_got : (facts : Facts) (plan : Plan) (to : Destination) (site : ℕ) (ty : Option Ty) (location : Location) → gives_hooked facts ty ≡ false →
    Within Value (λ l. l ≡ location) At_none (got_by facts plan to site ty location)
within_got facts plan to site ty location e = taken_within _ (form_for facts ty) to _ location e

-- a value that is handed on
pub within_handed : (facts : Facts) (to : Destination) (ty : Option Ty) (v : Value) → gives_hooked facts ty ≡ false →
    Within Value At_none At_none (handed_by facts to ty v)
within_handed facts to None v e = answers
within_handed facts to (Some ty) v e = works (within_kept At_none At_none _ to v e)

-- ---- texts that are written

-- what a text holds is the same where blocks are
text_alike : (v : Value) (a b : World) → a.heap ≡ b.heap → text_of a v ≡ text_of b v
text_alike (Handle n (Some k)) a b e = ap (λ heap. text_in (contents_value (block_at heap k))) e
text_alike (Handle n None) a b e = refl
text_alike (Number z) a b e = refl
text_alike (Parts all) a b e = refl
text_alike (Fixed t) a b e = refl
text_alike (Ref object) a b e = refl
text_alike (Resource all identity) a b e = refl
text_alike (Gone v final) a b e = refl
text_alike Vacant a b e = refl

value_alike : (facts : Facts) (ty : Ty) (v : Value) (a b : World) → a.heap ≡ b.heap → value_text facts a ty v ≡ value_text facts b ty v
value_alike facts text v a b e = text_alike v a b e
value_alike facts _ v a b e = refl

at_alike : (facts : Facts) (ty : Option Ty) (v : Value) (a b : World) → a.heap ≡ b.heap → text_at facts a ty v ≡ text_at facts b ty v
at_alike facts None v a b e = refl
at_alike facts (Some ty) v a b e = value_alike facts (below_distinct (length facts) facts ty) v a b e

texts_alike : (facts : Facts) (of : List (Option Ty)) (xs : List Operand) (a b : World) → Alike (At_any xs) a b →
    texts_of facts a of xs ≡ texts_of facts b of xs
texts_alike facts [] xs a b h = refl
texts_alike facts (ty ∷ of) [] a b h = refl
texts_alike facts (ty ∷ of) (x ∷ xs) a b h =
    ap₂ (λ t u. t ++ u) (at_alike facts ty (load a (location_of x)) a b h.0 ∙ ap (text_at facts b ty) (h.1 (location_of x) (inl refl)))
    (texts_alike facts of xs a b (h.0, (λ l r. h.1 l (inr r))))

seen_any : (xs : List Operand) (a b : World) → Alike (At_any xs) a b → are_seen a xs ≡ are_seen b xs
seen_any [] a b h = refl
seen_any (x ∷ xs) a b h =
    ap₂ (λ s t. s && t) (seen_alike (At_any (x ∷ xs)) At_none (location_of x) a b h (inl refl)) (seen_any xs a b (h.0, (λ l r. h.1 l (inr r))))

-- ---- operations

module _ (xs : List Operand) (facts : Facts) (ty : Option Ty) (of : List (Option Ty)) where
  abbrev Any : Deed Value → Type 0
  Any deed = Within Value (At_any xs) (At_any xs) deed

  does_any : (operation : Operation) → Any (does operation facts ty of xs)
  does_any O.Default = works answers
  does_any (O.Unary operator) = within_outcome (At_any xs) (At_any xs) (applied_to operator _)
  does_any (O.Binary operator) = within_outcome (At_any xs) (At_any xs) (applied operator _ _)
  does_any (O.Compare comparison) = works answers
  does_any O.Convert = within_then (At_any xs) (At_any xs) (within_converted (At_any xs) (At_any xs) (limit_for facts ty) _) (λ v. works answers)
  does_any O.Make = works answers
  does_any (O.Measure measure) =
      within_sees (At_any xs) (At_any xs) (location xs 0) (λ v. Gives (Number (measured measure (length_of v)))) (at_any xs 0) (λ v. answers)
  does_any O.Echo =
      within_then (At_any xs) (At_any xs) {go = λ u. give nothing}
      (works (looks_at_all {rest = λ world. unless_gone (are_seen world xs) (write Output (line_of (texts_of facts world of xs)))}
      (λ a b h. ap₂ (λ s t. unless_gone s (write Output (line_of t))) (seen_any xs a b h) (texts_alike facts of xs a b h))
      (λ world. guarded (At_any xs) (At_any xs) (are_seen world xs) (works (says answers))))) (λ u. answers {x = nothing})
  does_any O.Quit = ends_run
  does_any O.Assign =
      within_sees (At_any xs) (At_any xs) (location xs 0) (λ old. put (location xs 0) (value xs 1)) (at_any xs 0)
      (λ old. within_put (At_any xs) (At_any xs) (location xs 0) (value xs 1) (at_any xs 0))
  does_any (O.Update operator) =
      within_takes (At_any xs) (At_any xs) (location xs 0) (λ v. Works (bytes v) (operate operator (number_of v) (step_by xs) >>= put (location xs 0)))
      (at_any xs 0)
      (λ v. works (within_then (At_any xs) (At_any xs) (within_outcome (At_any xs) (At_any xs) (applied operator (number_of v) (step_by xs)))
      (λ u. within_put (At_any xs) (At_any xs) (location xs 0) u (at_any xs 0))))
  does_any O.Move = within_exchanged (At_any xs) (At_any xs) (location xs 0) (default_for facts ty) (at_any xs 0) (at_any xs 0)
  does_any O.Swap =
      within_then (At_any xs) (At_any xs) {go = λ u. exchanged (location xs 0) u >> give nothing}
      (within_takes (At_any xs) (At_any xs) (location xs 0) (λ v. exchanged (location xs 1) v) (at_any xs 0)
      (λ v. within_exchanged (At_any xs) (At_any xs) (location xs 1) v (at_any xs 1) (at_any xs 1)))
      (λ u. within_then (At_any xs) (At_any xs) {go = λ w. give nothing}
      (within_exchanged (At_any xs) (At_any xs) (location xs 0) u (at_any xs 0) (at_any xs 0))
      (λ w. answers {x = nothing}))
  does_any operation = answers

  -- one without hooks; and `echo`, whose row is the same with them
  operates_any : (operation : Operation) (b : Bool) → b ≡ false ⊎ (operation ≡ O.Echo) →
      Any (branch b (looks (λ world. unless_gone (are_seen world xs) (owned operation facts ty of xs (does operation facts ty of xs))))
      (does operation facts ty of xs))
  operates_any operation true (inl e) = absurd (false≢true (sym e))
  operates_any operation true (inr e) =
      looks_at_all {rest = λ world. unless_gone (are_seen world xs) (owned operation facts ty of xs (does operation facts ty of xs))}
      (λ a b h. ap (λ s. unless_gone s (owned operation facts ty of xs (does operation facts ty of xs))) (seen_any xs a b h))
      (λ world. guarded (At_any xs) (At_any xs) (are_seen world xs)
      (subst (λ operation. Any (owned operation facts ty of xs (does operation facts ty of xs))) (sym e) (does_any O.Echo)))
  operates_any operation false h = does_any operation

  acts_any : (operation : Operation) → ((gives_hooked facts ty || any_hooked facts of) ≡ false) ⊎ (operation ≡ O.Echo) →
      Any (acts (Doing operation) facts ty of xs)
  acts_any operation h = works (operates_any operation (gives_hooked facts ty || any_hooked facts of) h)

-- an object that is built
pub building_as : (facts : Facts) (fields : List ℕ) (to : Destination) (ty : Option Ty) (of : List (Option Ty)) (on : Operands) (zs : List (Option Path)) →
    gives_hooked facts ty ≡ false → on.alters ≡ paths_among zs → DoneAs (Operate on) zs (λ xs. row facts (Building fields) to ty of xs)
building_as facts fields to ty of on zs plain e =
    operates e (λ xs. within_row (At_any xs) (At_any xs) facts (Building fields) to ty of xs plain (works (works answers)))

-- the value of a constant without hooks, and a literal that is written
constant_within : (reads writes : Location → Type 0) (hook : Bool) (f : Form) (n : ℕ) (v : Value) → hook ≡ false →
    Within Value reads writes (constant_for hook f n v)
constant_within reads writes true f n v e = absurd (false≢true (sym e))
constant_within reads writes false f n v e = works answers

pub giving_as : (facts : Facts) (literal : Literal) (to : Destination) (ty : Option Ty) (of : List (Option Ty)) (on : Operands) (zs : List (Option Path)) →
    gives_hooked facts ty ≡ false → on.alters ≡ paths_among zs → DoneAs (Operate on) zs (λ xs. row facts (Giving literal) to ty of xs)
giving_as facts literal to ty of on zs plain e =
    operates e (λ xs. within_row (At_any xs) (At_any xs) facts (Giving literal) to ty of xs plain
    (works (constant_within (At_any xs) (At_any xs) (gives_hooked facts ty) (form_for facts ty) (literal_bytes literal) (literal_value literal) plain)))

-- a literal text that is lent has no block, whether its type has hooks or not
pub literal_as : (facts : Facts) (t : List ℕ) (to : Destination) (ty : Option Ty) (on : Operands) (zs : List (Option Path)) → to.how ≡ Lent →
    on.alters ≡ paths_among zs → DoneAs (Operate on) zs (λ xs. row facts (Giving (T.Characters t)) to ty [] xs)
literal_as facts t to ty on zs lent e =
    operates e (λ xs. works (given xs (gives_hooked facts ty)))
  where
    given : (xs : List Operand) (b : Bool) → Within Value (At_any xs) (At_any xs) (constant_for b (form_for facts ty) 0 (Fixed t) >>= made_by b to)
    given xs false = works answers
    given xs true = subst (λ how. Within Value (At_any xs) (At_any xs) (text_for how to t)) (sym lent) answers

-- what an operation does, as its act
pub done_as : (facts : Facts) (to : Destination) (ty : Option Ty) (of : List (Option Ty)) (operation : Operation) (operands : T.Args) (on : Operands) →
    gives_hooked facts ty ≡ false → (any_hooked facts of ≡ false) ⊎ (operation ≡ O.Echo) → on.alters ≡ paths_among (paths_in operands) →
    DoneAs (act_by operation operands on) (paths_in operands) (λ xs. row facts (Doing operation) to ty of xs)
done_as facts to ty of O.Assign (T.ByPath path rest) on plain h e =
    gives_to (λ xs. subst (λ b. Writes Value (At_first xs) (by_types xs b O.Assign)) (sym (all_plain h))
    (writes_first (goes_on_as {rest = λ world. over xs (is_seen world (location xs 0))} (λ world. as_one xs (is_seen world (location xs 0)))
    (writes_first (if_place xs (may_change (location xs 0).base))))))
  where
    by_types : List Operand → Bool → Operation → Deed Value
    by_types xs b o =
        Works 1 (branch b (looks (λ world. unless_gone (are_seen world xs) (owned o facts ty of xs (does o facts ty of xs)))) (does o facts ty of xs))
        >>= kept_if (gives_hooked facts ty) to

    over : List Operand → Bool → Deed Value
    over xs b = unless_gone b (put (location xs 0) (value xs 1)) >>= kept_if (gives_hooked facts ty) to

    as_one : (xs : List Operand) (b : Bool) → (over xs b ≡ over xs true) ⊎ (over xs b ≡ Errs)
    as_one xs true = inl refl
    as_one xs false = inr refl

    set : List Operand → Bool → Deed Value
    set xs b = (unless_gone b (Changes (Stores (location xs 0) (value xs 1)) (Gives (tt {0}))) >> give nothing) >>= kept_if (gives_hooked facts ty) to

    if_there : (xs : List Operand) (b : Bool) → Writes Value (At_first xs) (set xs b)
    if_there xs true = writes_there refl (within_kept At_none (At_first xs) (gives_hooked facts ty) to nothing plain)
    if_there xs false = never_goes_on

    if_place : (xs : List Operand) (c : Bool) → Writes Value (At_first xs)
        ((unless_gone c (sets (location xs 0) (value xs 1)) >> give nothing) >>= kept_if (gives_hooked facts ty) to)
    if_place xs true = looks_at_blocks {rest = λ world. set xs (is_there world (location xs 0))}
        (λ a b h. ap (set xs) (there_alike (location xs 0) a b h)) (λ world. if_there xs (is_there world (location xs 0)))
    if_place xs false = never_goes_on

    all_plain : (any_hooked facts of ≡ false) ⊎ (O.Assign ≡ O.Echo) → (gives_hooked facts ty || any_hooked facts of) ≡ false
    all_plain (inl f) = ap₂ (λ a b. a || b) plain f
    all_plain (inr f) = absurd (false≢true (sym (ap is_assign f)))
done_as facts to ty of (O.Measure measure) (T.ByPath path rest) on plain h e =
    looks_at (λ xs. within_row (At_first xs) At_none facts (Doing (O.Measure measure)) to ty of xs plain
    (works (measures xs (gives_hooked facts ty || any_hooked facts of) (all_plain h))))
  where
    all_plain : (any_hooked facts of ≡ false) ⊎ (O.Measure measure ≡ O.Echo) → (gives_hooked facts ty || any_hooked facts of) ≡ false
    all_plain (inl f) = ap₂ (λ a b. a || b) plain f
    all_plain (inr f) = absurd (false≢true (sym (ap is_measure f)))

    measures : (xs : List Operand) (b : Bool) → b ≡ false → Within Value (At_first xs) At_none
        (branch b (looks (λ world. unless_gone (are_seen world xs) (owned (O.Measure measure) facts ty of xs (does (O.Measure measure) facts ty of xs))))
        (does (O.Measure measure) facts ty of xs))
    measures xs true e = absurd (false≢true (sym e))
    measures xs false e =
        within_sees (At_first xs) At_none (location xs 0) (λ v. Gives (Number (measured measure (length_of v)))) refl (λ v. answers)
done_as facts to ty of operation operands on plain h e =
    operates e (λ xs. within_row (At_any xs) (At_any xs) facts (Doing operation) to ty of xs plain (acts_any xs facts ty of operation (either h)))
  where
    either : (any_hooked facts of ≡ false) ⊎ (operation ≡ O.Echo) → ((gives_hooked facts ty || any_hooked facts of) ≡ false) ⊎ (operation ≡ O.Echo)
    either (inl f) = inl (ap₂ (λ a b. a || b) plain f)
    either (inr f) = inr f
