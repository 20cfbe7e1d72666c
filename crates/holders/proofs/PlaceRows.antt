-- The rows of operations on places.
use Rattle.std.proofs.Common.{◌≡◌, refl, sym, ap, ap₂, subst, ◌∙◌, ℕ, Bool, true, false, inl, inr, ◌⊎◌, List, [], ◌∷◌, ◌++◌, length, Option, Some, None}
use Rattle.std.specs.Prelude.{◌&&◌, ◌||◌, ◌-◌, ℤ}
use Rattle.std.proofs.lemmas.Bool.{false≢true, and_parts, or_left, or_right}
use Rattle.nim_types.specs.Types.{Ty, Facts}
use Rattle.nim_types.specs.Forms.{Form, plain, block, elements, hooked, form_of}
use Rattle.nim_types.proofs.ForCallers.{the_form}
use Rattle.nim_program.specs.declared.operation.Operation.TheVariants as O
use Rattle.nim_program.specs.declared.operation.Operator.{Operator}
use Rattle.nim_program.specs.declared.operation.Measure.{Measure}
use Rattle.nim_program.specs.Ints.{Checked, Fine, Trapped, applied}
use Rattle.nim_program.specs.Kinds as kind
use Rattle.nim_program.specs.Kinds.{TypeKind, kind_if, is_int, is_bool, is_text, is_sequence, is_resized, has_length, is_of}
use Rattle.nim_program.specs.Fitting.{fits}
use Rattle.nim_meaning.specs.Values.{Value, Number, nothing, number_of, length_of, bytes, Location, Operand, Given, At, location_of, number}
use Rattle.nim_meaning.specs.State.{World, load, text_of, is_full_at, is_seen, bytes_left}
use Rattle.nim_meaning.specs.Heap.{Characters}
use Rattle.nim_meaning.specs.Texts.{are_seen, shown}
use Rattle.nim_meaning.specs.Here.{gives_hooked, any_hooked, form_for}
use Rattle.nim_meaning.specs.Deeds as deeds
use Rattle.nim_meaning.specs.Deeds.{Deed, Gives, Ends, Errs, Works, Says, Looks, Changes, Takes, changed, with_block, give, looks, takes, ◌>>=◌, ◌>>◌}
use Rattle.nim_meaning.specs.Lifted.{assigned, assigns, resized}
use Rattle.nim_meaning.specs.Places.{put, put_over, exchanged, changes, may_change}
use Rattle.nim_meaning.specs.Table.{does, operates, operate, outcome, updated, swapped, default_for, step_by, measured}
use Rattle.nim_meaning.specs.OwnedRows.{counted, appended, shortened, length_to, line_into, is_text_form, text_to, sequence_to, element_of as element_form_of}
use Rattle.holders.specs.Owned.{Full, Constant, Has, a_number, HasBlocksAlone}
use Rattle.holders.specs.Sure.{Sure}
use Rattle.holders.specs.Territory.{Owner, Moves}
use Rattle.holders.specs.Ways.{Step, Chain}
use Rattle.holders.specs.Finding.{Found, in_cell, Read}
use Rattle.holders.specs.Handing.{HandsOut}
use Rattle.holders.specs.Running.{Region}
use Rattle.holders.specs.Staging.{Stage, Holding}
use Rattle.holders.proofs.Sure.{sure_weaker}
use Rattle.holders.proofs.Owning.{plain_anywhere, from_full}
use Rattle.holders.proofs.ElementLists.{blank_has}
use Rattle.holders.proofs.Guards.{sure_reads, sure_takes}
use Rattle.holders.proofs.PlainRows.{read_found, puts, updates}
use Rattle.holders.proofs.Rows.{reads_line, gives_away}
use Rattle.holders.proofs.Operations.{appends_text, text_length, sequence_length, pops_element, counted_sure, sure_assigns, assigns_value, assigns_copy}
use Rattle.holders.proofs.Staging.{stage_moves, stage_takes, stage_hands, no_given}
use Rattle.holders.specs.Asked.{IfSimple}
use Rattle.holders.specs.Evaluating.{Bare}
use Rattle.holders.proofs.Constants.{hooked_is, int_type, bool_type}
use Rattle.holders.proofs.FormKinds.{text_form, sequence_form, same_type}
use Rattle.holders.proofs.Table.{OutOf, At_stage, Numbers, out_bare, out_number, out_none, out_either, operated, one_row, has_hooks}
use Rattle.holders.proofs.Sure.{sure_answer}
use Rattle.holders.proofs.Pairs.{swaps}

-- ---- what is answered behind a deed

put_answer : (deed : Deed Value) (l : Location) (P : World → Type 0) (world : World) → Sure (deed >>= put l) (λ x after. P after) world →
    Sure (deed >>= put l) (λ x after. P after × (x ≡ nothing)) world
put_answer (Gives x) l P world h = sure_answer (changes l x) nothing nothing P world h
put_answer (Ends status) l P world h = tt
put_answer Errs l P world h = h
put_answer (Works n deed) l P world h = put_answer deed l P world h
put_answer (Says es deed) l P world h = put_answer deed l P world h
put_answer (Looks deed) l P world h = put_answer (deed world) l P world h
put_answer (Changes change deed) l P world h = put_answer deed l P (changed change world) h
put_answer (Takes class contents deed) l P world h = put_answer (deed (length world.heap.blocks)) l P (with_block class contents world) h

updated_answer : (l : Location) (next : ℤ → Deed Value) (P : World → Type 0) (world : World) → Sure (updated l next) (λ x after. P after) world →
    Sure (updated l next) (λ x after. P after × (x ≡ nothing)) world
updated_answer l next P world h = by (is_full_at world l) h
  where
    go : Deed Value
    go = Works (bytes (load world l)) (next (number_of (load world l)) >>= put l)

    by : (b : Bool) → Sure (deeds.unless_gone b go) (λ x after. P after) world → Sure (deeds.unless_gone b go) (λ x after. P after × (x ≡ nothing)) world
    by true h = put_answer (next (number_of (load world l))) l P world h
    by false h = h

then_answer : {A B : Type 0} (deed : Deed A) (rest : A → Deed B) (P : World → Type 0) (world : World) →
    Sure (deed >>= (λ v. rest v >>= (λ u. give nothing))) (λ x after. P after) world →
    Sure (deed >>= (λ v. rest v >>= (λ u. give nothing))) (λ x after. P after × (x ≡ nothing)) world
then_answer (Gives x) rest P world h = sure_answer (rest x) nothing nothing P world h
then_answer (Ends status) rest P world h = tt
then_answer Errs rest P world h = h
then_answer (Works n deed) rest P world h = then_answer deed rest P world h
then_answer (Says es deed) rest P world h = then_answer deed rest P world h
then_answer (Looks deed) rest P world h = then_answer (deed world) rest P world h
then_answer (Changes change deed) rest P world h = then_answer deed rest P (changed change world) h
then_answer (Takes class contents deed) rest P world h = then_answer (deed (length world.heap.blocks)) rest P (with_block class contents world) h

-- ---- a place that may be written stands in a cell

pub found_chain : {os : List Owner} {world : World} {n : ℕ} {steps : List Step} {f : Form} {l : Location} → Found os world true n steps f l →
    Chain os world (record { form = f; at = l })
found_chain (in_cell c goes) = c

module _ (facts : Facts) (r : Region) (ms os : List Owner) (first places : ℕ) (nodes old : List ℕ) (start now : World)
    (s : Stage r ms os first places nodes old start now) where
  abbrev OutHere : Option Ty → Value → World → Type 0
  OutHere ty v after = OutOf facts r ms os first places nodes old start ty v after

  abbrev StageHere : World → Type 0
  StageHere after = At_stage facts r ms os first places nodes old start after

  abbrev HoldHere : Form → Value → World → Type 0
  HoldHere f v after = Holding f v r ms os first places nodes old start after

  abbrev MovesHere : World → Type 0
  MovesHere after = Moves (ms ++ os) [] s.runs.territory.blocks now after

  moved_none : (deed : Deed Value) → Sure deed (λ x after. MovesHere after × (x ≡ nothing)) now → Sure deed (OutHere None) now
  moved_none deed h =
      out_none facts r ms os first places nodes old start deed now
      (sure_weaker deed (λ x after. MovesHere after × (x ≡ nothing)) (λ v after. StageHere after × (v ≡ nothing)) now h
      (λ x after m. (stage_moves r os first places old start s m.0, m.1)))

  handed_out : {f : Form} (ty : Option Ty) (deed : Deed Value) → form_for facts ty ≡ f → Sure deed (HandsOut f (ms ++ os) [] s.runs.territory.blocks now) now →
      Sure deed (OutHere ty) now
  handed_out {f} ty deed e h =
      out_either facts r ms os first places nodes old start ty deed now
      (subst (λ g. Sure deed (HoldHere g) now) (sym e)
      (sure_weaker deed (HandsOut f (ms ++ os) [] s.runs.territory.blocks now) (HoldHere f) now h
      (λ v after m. stage_hands r os first places old start s (no_given r os first places old start) m)))

  -- ---- how many

  pub measure : {f : Form} {l : Location} (measure : Measure) (ty : Option Ty) (of : List (Option Ty)) → IfSimple facts ty →
      fits facts (O.Measure measure) ty of ≡ true → are_seen now (At l ∷ []) ≡ true → Read f l now →
      Sure (operates (O.Measure measure) facts ty of (At l ∷ [])) (OutHere ty) now
  measure m ty [] simple typed seen read = absurd (false≢true typed)
  measure {f} {l} m ty (a ∷ []) simple typed seen read =
      let deed = does (O.Measure m) facts ty (a ∷ []) (At l ∷ []) in
      out_number facts r ms os first places nodes old start ty (operates (O.Measure m) facts ty (a ∷ []) (At l ∷ [])) now
      (int_type facts ty simple (and_parts (is_int (kind_if facts ty)) (has_length (kind_if facts a)) typed).0)
      (one_row facts r ms os first places nodes old start (O.Measure m) ty (a ∷ []) (At l ∷ []) (Numbers facts r ms os first places nodes old start) now
      (λ d. refl) seen
      (sure_reads (λ world v. give (Number (measured m (length_of v)))) (Numbers facts r ms os first places nodes old start) read.from tt read.has
      (s, λ world. a_number)))
  measure m ty (a ∷ b ∷ of) simple typed seen read = absurd (false≢true typed)

  -- ---- places that are written

  module _ {n : ℕ} {steps : List Step} (a : Option Ty) {l : Location} (found : Found (ms ++ os) now true n steps (form_for facts a) l) where
    text_chain : form_for facts a ≡ block → Chain (ms ++ os) now (record { form = block; at = l })
    text_chain e = found_chain (subst (λ f. Found (ms ++ os) now true n steps f l) e found)

    any_first : (of : List (Option Ty)) → gives_hooked facts a ≡ true → any_hooked facts (a ∷ of) ≡ true
    any_first of e = or_left (gives_hooked facts a) (any_hooked facts of) e

    no_bare : {A : Type 0} (ty : Option Ty) (of : List (Option Ty)) → gives_hooked facts a ≡ true →
        gives_hooked facts ty || any_hooked facts (a ∷ of) ≡ false → A
    no_bare ty of e q = absurd (false≢true (sym q ∙ or_right (gives_hooked facts ty) (any_hooked facts (a ∷ of)) (any_first of e)))

    pub read_into : (ty : Option Ty) → IfSimple facts ty → IfSimple facts a → fits facts O.ReadLineInto ty (a ∷ []) ≡ true → are_seen now (At l ∷ []) ≡ true →
        Sure (operates O.ReadLineInto facts ty (a ∷ []) (At l ∷ [])) (OutHere ty) now
    read_into ty simple simple_a typed seen =
        let parts = and_parts (is_bool (kind_if facts ty)) (is_text (kind_if facts a)) typed in
        let e = text_form facts a simple_a parts.1 in
        out_number facts r ms os first places nodes old start ty (operates O.ReadLineInto facts ty (a ∷ []) (At l ∷ [])) now
        (bool_type facts ty simple parts.0)
        (operated facts r ms os first places nodes old start O.ReadLineInto ty (a ∷ []) (At l ∷ []) (Numbers facts r ms os first places nodes old start) now
        (λ q. seen)
        (λ q. sure_weaker (line_into l (bytes_left now)) (λ x after. Has after Full plain x [] × MovesHere after)
        (Numbers facts r ms os first places nodes old start) now (reads_line s.runs.territory (bytes_left now) (text_chain e))
        (λ x after h. (stage_moves r os first places old start s h.1, λ world. plain_anywhere world Constant refl (from_full h.0))))
        (λ q. no_bare ty [] (has_hooks facts r ms os first places nodes old start a e refl) q))

    pub append : (b : Option Ty) (y : Operand) → IfSimple facts a → is_text (kind_if facts a) ≡ true → are_seen now (At l ∷ y ∷ []) ≡ true →
        Sure (operates O.Append facts None (a ∷ b ∷ []) (At l ∷ y ∷ [])) (OutHere None) now
    append b y simple typed seen =
        let e = text_form facts a simple typed in
        let more = shown facts now b y in
        operated facts r ms os first places nodes old start O.Append None (a ∷ b ∷ []) (At l ∷ y ∷ []) (OutHere None) now (λ q. seen)
        (λ q. moved_none (appended more l >> give nothing)
        (sure_answer (appended more l) nothing nothing MovesHere now (appends_text s.runs.territory more (text_chain e))))
        (λ q. no_bare None (b ∷ []) (has_hooks facts r ms os first places nodes old start a e refl) q)

    resized_so : (k : TypeKind) → is_resized k ≡ true → (is_text k ≡ true) ⊎ (is_sequence k ≡ true)
    resized_so kind.text e = inl refl
    resized_so (kind.sequence t) e = inr refl
    resized_so kind.int e = absurd (false≢true e)
    resized_so kind.bool e = absurd (false≢true e)
    resized_so kind.char e = absurd (false≢true e)
    resized_so (kind.enum m) e = absurd (false≢true e)
    resized_so (kind.array m t) e = absurd (false≢true e)
    resized_so (kind.tuple ts) e = absurd (false≢true e)
    resized_so (kind.object b ts) e = absurd (false≢true e)
    resized_so (kind.distinct t) e = absurd (false≢true e)
    resized_so (kind.ref t) e = absurd (false≢true e)
    resized_so kind.exception e = absurd (false≢true e)
    resized_so kind.parameter e = absurd (false≢true e)
    resized_so kind.other e = absurd (false≢true e)

    length_row : (f : Form) → form_for facts a ≡ f → hooked f ≡ true → ((m : ℕ) → Sure (length_to f m l) (λ x after. MovesHere after) now) →
        (b : Option Ty) (y : Operand) → are_seen now (At l ∷ y ∷ []) ≡ true →
        Sure (operates O.SetLength facts None (a ∷ b ∷ []) (At l ∷ y ∷ [])) (OutHere None) now
    length_row f e hooks rows b y seen =
        operated facts r ms os first places nodes old start O.SetLength None (a ∷ b ∷ []) (At l ∷ y ∷ []) (OutHere None) now (λ q. seen)
        (λ q. sure_assigns s.runs.territory (found_chain found) (counted (number (At l ∷ y ∷ []) 1) (λ m. length_to (form_for facts a) m l)) (OutHere None)
        (subst (λ g. Sure (counted (number (At l ∷ y ∷ []) 1) (λ m. length_to g m l)) (OutHere None) now) (sym e)
        (counted_sure (number (At l ∷ y ∷ []) 1) (λ m. length_to f m l) (OutHere None) now
        (λ m. moved_none (length_to f m l) (sure_answer (lengthened f m) nothing nothing MovesHere now (rows m))))))
        (λ q. no_bare None (b ∷ []) (has_hooks facts r ms os first places nodes old start a e hooks) q)
      where
        lengthened : Form → ℕ → Deed (Unit {0})
        lengthened f m = looks λ world. deeds.branch (is_text_form f)
            (deeds.costs (m - length_of (load world l)) (resized m m (Characters (text_to m (text_of world (load world l)))) l))
            (sequence_to (element_form_of f) m l world)

    pub set_length : (b : Option Ty) (y : Operand) → IfSimple facts a → is_resized (kind_if facts a) ≡ true → are_seen now (At l ∷ y ∷ []) ≡ true →
        Sure (operates O.SetLength facts None (a ∷ b ∷ []) (At l ∷ y ∷ [])) (OutHere None) now
    set_length b y simple typed seen = by (resized_so (kind_if facts a) typed)
      where
        by : (is_text (kind_if facts a) ≡ true) ⊎ (is_sequence (kind_if facts a) ≡ true) →
            Sure (operates O.SetLength facts None (a ∷ b ∷ []) (At l ∷ y ∷ [])) (OutHere None) now
        by (inl e) =
            let q = text_form facts a simple e in
            length_row block q refl (λ m. text_length s.runs.territory m (text_chain q)) b y seen
        by (inr e) =
            let q = sequence_form facts a simple e in
            length_row (elements q.form) q.is refl
            (λ m. sequence_length s.runs.territory q.blocks m (found_chain (subst (λ f. Found (ms ++ os) now true n steps f l) q.is found))) b y seen

    pub pop : (ty : Option Ty) → IfSimple facts a → fits facts O.Pop ty (a ∷ []) ≡ true → are_seen now (At l ∷ []) ≡ true →
        Sure (operates O.Pop facts ty (a ∷ []) (At l ∷ [])) (OutHere ty) now
    pop ty simple typed seen =
        let parts = and_parts (is_sequence (kind_if facts a)) (is_of (kind.element_of (kind_if facts a)) ty) typed in
        let q = sequence_form facts a simple parts.0 in
        let c = found_chain (subst (λ f. Found (ms ++ os) now true n steps f l) q.is found) in
        let popped : Form → Deed Value = λ f. shortened (element_form_of f) (length_of (load now l)) l now in
        operated facts r ms os first places nodes old start O.Pop ty (a ∷ []) (At l ∷ []) (OutHere ty) now (λ e. seen)
        (λ e. sure_assigns s.runs.territory (found_chain found)
        (looks λ world. shortened (element_form_of (form_for facts a)) (length_of (load world l)) l world) (OutHere ty)
        (subst (λ f. Sure (popped f) (OutHere ty) now) (sym q.is)
        (handed_out ty (popped (elements q.form))
        (ap (form_for facts) (sym (same_type parts.1) ∙ q.element) ∙ q.form_is) (pops_element s.runs.territory c))))
        (λ e. no_bare ty [] (has_hooks facts r ms os first places nodes old start a q.is refl) e)

    -- ---- a number is updated

    operate_so : (operator : Operator) (x y : ℤ) → Sure (operate operator x y) (λ v after. (after ≡ now) × Has now Constant plain v []) now
    operate_so operator x y = by (applied operator x y)
      where
        by : (c : Checked) → Sure (outcome c) (λ v after. (after ≡ now) × Has now Constant plain v []) now
        by (Fine z) = (refl, a_number)
        by (Trapped trap) = tt

    pub update : (operator : Operator) (of : List (Option Ty)) (xs : List Operand) → IfSimple facts a → is_int (kind_if facts a) ≡ true →
        are_seen now (At l ∷ xs) ≡ true → Sure (operates (O.Update operator) facts None (a ∷ of) (At l ∷ xs)) (OutHere None) now
    update operator of xs simple typed seen =
        let e = int_type facts a simple typed in
        let next : ℤ → Deed Value = λ x. operate operator x (step_by (At l ∷ xs)) in
        one_row facts r ms os first places nodes old start (O.Update operator) None (a ∷ of) (At l ∷ xs) (OutHere None) now (λ d. refl) seen
        (moved_none (updated l next)
        (updated_answer l next MovesHere now
        (updates s.runs.territory next (subst (λ f. Found (ms ++ os) now true n steps f l) e found)
        (λ z. operate_so operator z (step_by (At l ∷ xs))))))

    -- ---- assignment

    pub assign_bare : (b : Option Ty) {v : Value} → is_of b a ≡ true → hooked (form_for facts a) ≡ false → Bare (form_for facts b) v →
        are_seen now (At l ∷ Given v ∷ []) ≡ true → Sure (operates O.Assign facts None (a ∷ b ∷ []) (At l ∷ Given v ∷ [])) (OutHere None) now
    assign_bare b {v} typed bare h seen =
        let same = ap (form_for facts) (same_type typed) in
        let none : any_hooked facts (a ∷ b ∷ []) ≡ false =
        ap₂ (λ m k. m || (k || false)) (hooked_is facts a ∙ bare) (hooked_is facts b ∙ (ap hooked same ∙ bare)) in
        operated facts r ms os first places nodes old start O.Assign None (a ∷ b ∷ []) (At l ∷ Given v ∷ []) (OutHere None) now (λ q. seen)
        (λ q. absurd (false≢true (sym none ∙ q)))
        (λ q. moved_none (put_over l v) (subst (λ c. Sure (deeds.unless_gone c (put l v)) (λ x after. MovesHere after × (x ≡ nothing)) now)
        (sym (and_parts (is_seen now l) (is_seen now (location_of (Given v)) && true) seen).0)
        (sure_answer (changes l v) nothing nothing MovesHere now
        (puts s.runs.territory bare found (subst (λ f. Has now Constant f v []) same (h now))))))

    pub assign_copy : (b : Option Ty) {m : ℕ} {ss : List Step} {from : Location} → is_of b a ≡ true → hooked (form_for facts a) ≡ true →
        Found (ms ++ os) now false m ss (form_for facts b) from → are_seen now (At l ∷ At from ∷ []) ≡ true →
        Sure (operates O.Assign facts None (a ∷ b ∷ []) (At l ∷ At from ∷ [])) (OutHere None) now
    assign_copy b {m} {ss} {from} typed hooks h seen =
        let same = ap (form_for facts) (same_type typed) in
        operated facts r ms os first places nodes old start O.Assign None (a ∷ b ∷ []) (At l ∷ At from ∷ []) (OutHere None) now (λ q. seen)
        (λ q. moved_none (deeds.unless_gone (may_change l.base) (assigns (form_for facts a) l (At from)))
        (sure_assigns s.runs.territory (found_chain found) (assigns (form_for facts a) l (At from)) (λ x after. MovesHere after × (x ≡ nothing))
        (sure_answer (assigned (form_for facts a) l (At from)) nothing nothing MovesHere now
        (assigns_copy s.runs.territory hooks (found_chain found) (subst (λ f. Found (ms ++ os) now false m ss f from) same h)))))
        (λ q. no_bare None (b ∷ []) (hooked_is facts a ∙ hooks) q)

    -- ---- a value is taken away

    pub move : (ty : Option Ty) → IfSimple facts ty → is_of a ty ≡ true → are_seen now (At l ∷ []) ≡ true →
        Sure (operates O.Move facts ty (a ∷ []) (At l ∷ [])) (OutHere ty) now
    move ty simple typed seen =
        one_row facts r ms os first places nodes old start O.Move ty (a ∷ []) (At l ∷ []) (OutHere ty) now (λ d. refl) seen
        (by (hooked (form_for facts a)) refl)
      where
        same : form_for facts ty ≡ form_for facts a
        same = ap (form_for facts) (sym (same_type typed))

        blank_so : (o : Option Ty) → IfSimple facts o → Has now Full (form_for facts o) (default_for facts o) []
        blank_so None simple = a_number
        blank_so (Some t) simple = blank_has now Full (form_of facts t) (subst HasBlocksAlone (sym (the_form simple.has)) simple.blocks)

        by : (b : Bool) → hooked (form_for facts a) ≡ b → Sure (exchanged l (default_for facts ty)) (OutHere ty) now
        by true e =
            handed_out ty (exchanged l (default_for facts ty)) same
            (gives_away s.runs.territory (found_chain found) (subst (λ f. Has now Full f (default_for facts ty) []) same (blank_so ty simple)))
        by false e =
            let read = read_found s.runs.territory found in
            let x = default_for facts ty in
            out_bare facts r ms os first places nodes old start ty (exchanged l x) now (hooked_is facts ty ∙ (ap hooked same ∙ e))
            (sure_takes (λ world v. changes l x >> give v) (λ v after. StageHere after × Bare (form_for facts ty) v) read.from tt read.has
            (sure_weaker (changes l x >> give read.value) (λ v after. MovesHere after × (v ≡ read.value))
            (λ v after. StageHere after × Bare (form_for facts ty) v) now
            (sure_answer (changes l x) nothing read.value MovesHere now
            (puts s.runs.territory e found (subst (λ f. Has now Constant f x []) same (from_full (blank_so ty simple)))))
            (λ v after m. (
              stage_moves r os first places old start s m.0,
              λ world. subst (λ y. Has world Constant (form_for facts ty) y []) (sym m.1)
                  (subst (λ f. Has world Constant f read.value []) (sym same) (plain_anywhere world Constant e read.has)),
            ))))

    -- ---- two places trade their values

    pub swap : (b : Option Ty) {m : ℕ} {ss : List Step} {right : Location} → is_of a b ≡ true →
        Found (ms ++ os) now true m ss (form_for facts b) right → are_seen now (At l ∷ At right ∷ []) ≡ true →
        Sure (operates O.Swap facts None (a ∷ b ∷ []) (At l ∷ At right ∷ [])) (OutHere None) now
    swap b {m} {ss} {right} typed h seen =
        one_row facts r ms os first places nodes old start O.Swap None (a ∷ b ∷ []) (At l ∷ At right ∷ []) (OutHere None) now (λ d. refl) seen
        (moved_none (swapped l right)
        (then_answer (takes l (λ world v. exchanged right v)) (λ v. exchanged l v) MovesHere now
        (swaps s.runs.territory (found_chain found)
        (found_chain (subst (λ f. Found (ms ++ os) now true m ss f right) (ap (form_for facts) (sym (same_type typed))) h)))))

-- a place gets what is under way
pub assign_held : (facts : Facts) (r : Region) (ms os : List Owner) (first places : ℕ) (nodes old : List ℕ) (start now : World) {n : ℕ} {steps : List Step}
    (a b : Option Ty) {l : Location} {v : Value} → Found (ms ++ os) now true n steps (form_for facts a) l → is_of b a ≡ true →
    hooked (form_for facts a) ≡ true → are_seen now (At l ∷ Given v ∷ []) ≡ true → Holding (form_for facts b) v r ms os first places nodes old start now →
    Sure (operates O.Assign facts None (a ∷ b ∷ []) (At l ∷ Given v ∷ [])) (OutOf facts r ms os first places nodes old start None) now
assign_held facts r ms os first places nodes old start now a b {l} {v} found typed hooks seen held =
    let f = form_for facts a in
    let h = subst (λ g. Holding g v r ms os first places nodes old start now) (ap (form_for facts) (same_type typed)) held in
    let P : World → Type 0 = λ after. Moves (ms ++ os) h.under.given h.stage.runs.territory.blocks now after in
    operated facts r ms os first places nodes old start O.Assign None (a ∷ b ∷ []) (At l ∷ Given v ∷ []) (OutOf facts r ms os first places nodes old start None)
    now (λ q. seen)
    (λ q. out_none facts r ms os first places nodes old start (deeds.unless_gone (may_change l.base) (assigns f l (Given v))) now
    (sure_weaker (deeds.unless_gone (may_change l.base) (assigns f l (Given v))) (λ x after. P after × (x ≡ nothing))
    (λ x after. At_stage facts r ms os first places nodes old start after × (x ≡ nothing)) now
    (sure_assigns h.stage.runs.territory (found_chain found) (assigns f l (Given v)) (λ x after. P after × (x ≡ nothing))
    (sure_answer (assigned f l (Given v)) nothing nothing P now (assigns_value h.stage.runs.territory (found_chain found) h.under)))
    (λ x after m. (stage_takes r os first places old start h m.0, m.1))))
    (λ q. absurd (false≢true (sym q ∙ or_left (gives_hooked facts a) (any_hooked facts (b ∷ [])) (hooked_is facts a ∙ hooks))))
