-- What is claimed of the parts of an expression, and what they have in common.
use Rattle.std.proofs.Common.{◌≡◌, refl, sym, ap, subst, ◌∙◌, arith, ℕ, zero, suc, ◌<◌, inl, inr, ◌⊎◌, Bool, true, false, List, [], ◌∷◌, ◌++◌}
use Rattle.std.specs.Prelude.{◌&&◌}
use Rattle.std.proofs.lemmas.Bool.{false≢true}
use Rattle.nim_types.specs.Types.{Facts}
use Rattle.nim_types.specs.Forms.{Form}
use Rattle.nim_program.specs.declared.program.Mode.{Mode}
use Rattle.nim_program.specs.declared.operation.Use.{Use}
use Rattle.nim_program.specs.declared.operation.Use.TheVariants.{Owned, Given as ToPlace}
use Rattle.nim_program.specs.Program.{ByConditions, ByLabels, Expr, Apply, Read, Early, Choose, Path, Variable, Fresh, Field, Element, Deref}
use Rattle.nim_program.specs.Program.{Args, type_of, type_at, node_of, node_at}
use Rattle.nim_program.specs.Uses.{use_of}
use Rattle.nim_program.specs.Scopes as scopes
use Rattle.nim_meaning.specs.Values.{Value}
use Rattle.nim_meaning.specs.Marks.{Member, Distinct}
use Rattle.nim_meaning.specs.State.{World}
use Rattle.nim_meaning.specs.Here.{Here, level_of, gives_hooked, form_for}
use Rattle.nim_meaning.specs.Shapes.{is_read, waits, waits_from}
use Rattle.nim_meaning.specs.Waiting.{Wait, nodes_of, wait_if, waiting, reads_kept}
use Rattle.nim_meaning.specs.Aims.{Aim, Waits_at}
use Rattle.holders.specs.Owned.{Constant}
use Rattle.holders.specs.Territory.{Owner}
use Rattle.holders.specs.Finding.{PlaceOf, AimsAt, at_root, at_constant, at_value, at_waiting, at_field, at_element}
use Rattle.holders.specs.Running.{Passes}
use Rattle.holders.specs.Staging.{Stage, StageWith}
use Rattle.holders.specs.Groups.{without_node, waiting_cell}
use Rattle.holders.proofs.Owning.{from_full, plain_anywhere, plain_none}
use Rattle.holders.proofs.Working.{among_first, number_first}
use Rattle.holders.proofs.Scenes.{place_first, place_kept}
use Rattle.holders.specs.Asked.{Limits, IfSimple, Asked, AskedAt}
use Rattle.holders.specs.Evaluating.{value_nodes, path_nodes, operand_nodes, at_nodes, waits_inside, waits_itself, Scene, Leaves, is_bare, is_seen, is_held}
use Rattle.holders.specs.Evaluating.{is_waiting, Bare}
use Rattle.holders.proofs.PartsInTurn.{leaves_waits, path_in, operands_in, first_in}
use Rattle.holders.proofs.Constants.{hooked_is}
use Rattle.holders.specs.Claimed.{HasValue}
use Rattle.holders.proofs.Staging.{out_as}
use Rattle.holders.specs.Becoming.{times, none as no_blocks}

-- ---- the places in scope stand for the same afterwards

pub not_above : (global : Bool) (here : Here) → (level_of global here < here.level) ⊎ (level_of global here ≡ here.level)
not_above false here = inr refl
not_above true here = by here.level
  where
    by : (n : ℕ) → (0 < n) ⊎ (0 ≡ n)
    by zero = inr refl
    by (suc n) = inl (omega arith)

pub scene_passes : {here : Here} {scope : scopes.Here} {limits : Limits} {root : (global : Bool) → ℕ → ℕ} {os : List Owner} (ns : List ℕ)
    {old : List ℕ} {start now : World} → Passes (at_nodes here.level ns) os old start now → Scene here scope limits root os start →
    Scene here scope limits root os now
scene_passes {here} {os = os} ns {start = start} {now = now} p scene = record {
  place = λ global n ty named e. stays global n (scene.place global n ty named e);
  two = scene.two;
}
  where
    there : (global : Bool) → (level_of global here < here.level) ⊎ ((level_of global here ≡ here.level) × (false ≡ true → ⊥))
    there global = by (not_above global here)
      where
        by : (level_of global here < here.level) ⊎ (level_of global here ≡ here.level) →
            (level_of global here < here.level) ⊎ ((level_of global here ≡ here.level) × (false ≡ true → ⊥))
        by (inl less) = inl less
        by (inr e) = inr (e, λ q. false≢true q)

    stays : (global : Bool) (n : ℕ) {f : Form} {b : Bool} {m : ℕ} → PlaceOf os start (level_of global here) n f b m →
        PlaceOf os now (level_of global here) n f b m
    stays global n place = place_kept (λ l name. p.names (level_of global here) n l name (there global)) place

-- ---- among more cells

pub aims_first : {ms : List Owner} (ks : List Owner) {world : World} {b : Bool} {n : ℕ} {aim : Aim} {f : Form} → AimsAt ms world b n aim f →
    AimsAt (ms ++ ks) world b n aim f
aims_first ks (at_root p) = at_root (place_first ks p)
aims_first ks (at_constant h) = at_constant h
aims_first ks (at_value h) = at_value h
aims_first {ms} ks {world} {b} {f = f} (at_waiting {level = level} {node = node} i) =
    subst (λ n. AimsAt (ms ++ ks) world b n (Waits_at level node) f) (number_first ks i) (at_waiting (among_first ks i))
aims_first ks (at_field a p) = at_field (aims_first ks a) p
aims_first ks (at_element a p) = at_element (aims_first ks a) p

-- ---- types

module _ (facts : Facts) (limits : Limits) (OfCall : ℕ → Args → Type 0) where
  mutual
    pub asked_type : (e : Expr) → Asked facts limits OfCall e → IfSimple facts (type_of e)
    asked_type (Apply node ty act operands) a = a.0
    asked_type (Read path) a = asked_at path a
    asked_type (Early node ty short left right) a = a.0
    asked_type (Choose node ty chooser parts) a = a.0

    pub asked_at : (path : Path) → AskedAt facts limits OfCall path → IfSimple facts (type_at path)
    asked_at (Variable node ty place global) a = a.0
    asked_at (Fresh value) a = asked_type value a
    asked_at (Field node ty base field) a = a.0
    asked_at (Element node ty base index constant) a = a.0
    asked_at (Deref ty base) a = a.0

-- ---- behind a value

abbrev is_none : List Wait → Type 0
is_none [] = Unit {0}
is_none (w ∷ ws) = ⊥

pub none_is_one : {w : Wait} {ws : List Wait} → ◌≡◌ {A = List Wait} [] (w ∷ ws) → ⊥
none_is_one e = subst is_none e tt

pub nothing_more : (ws : List Wait) → ws ++ [] ≡ ws
nothing_more [] = refl
nothing_more (w ∷ ws) = ap (λ (vs : List Wait). w ∷ vs) (nothing_more ws)

module _ (facts : Facts) (modes : (proc position : ℕ) → Mode) where
  pub waiting_is : (e : Expr) (how : Use) → waits_inside facts modes e ++ waits_itself facts modes e how ≡ waiting facts modes e how
  waiting_is (Apply node ty act operands) how = refl
  waiting_is (Read path) how = refl
  waiting_is (Early node ty short left right) how = nothing_more (waiting facts modes left Owned ++ waiting facts modes right Owned)
  waiting_is (Choose node ty ByConditions parts) how = refl
  waiting_is (Choose node ty (ByLabels labels) parts) how = refl

  pub none_itself : (e : Expr) (how : Use) → waits_itself facts modes e how ≡ [] → waits_inside facts modes e ≡ waiting facts modes e how
  none_itself e how q =
      sym (nothing_more (waits_inside facts modes e)) ∙ (ap (λ (ws : List Wait). waits_inside facts modes e ++ ws) (sym q) ∙ waiting_is e how)

  -- where it has no hooks
  pub plain_itself : (e : Expr) (how : Use) → gives_hooked facts (type_of e) ≡ false → waits_itself facts modes e how ≡ []
  plain_itself (Apply node ty act operands) how q = ap (λ h. wait_if (h && waits_from act how) node.number ty (form_for facts ty)) q
  plain_itself (Read path) how q =
      ap (λ h. wait_if (h && (is_read (Read path) && reads_kept how)) (node_at path).number (type_at path) (form_for facts (type_at path))) q
  plain_itself (Early node ty short left right) how q = refl
  plain_itself (Choose node ty chooser parts) how q = ap (λ h. wait_if (h && waits how) node.number ty (form_for facts ty)) q

  -- a value's own node is no other one
  pub own_apart : (e : Expr) (how : Use) {w : Wait} → Distinct (value_nodes e) → waits_itself facts modes e how ≡ w ∷ [] → w.node ≡ (node_of e).number →
      Member w.node (nodes_of (waits_inside facts modes e)) → ⊥
  own_apart (Apply node ty act operands) how {w} d q n m =
      d.0 (subst (λ k. Member k (operand_nodes operands)) n (operands_in facts modes operands (use_of modes act) 0 w.node m))
  own_apart (Read path) how {w} d q n m = d.0 (subst (λ k. Member k (path_nodes path)) n (path_in facts modes path w.node m))
  own_apart (Early node ty short left right) how d q n m = absurd (none_is_one q)
  own_apart (Choose node ty ByConditions parts) how d q n m = elim m [ ]
  own_apart (Choose node ty (ByLabels labels) parts) how {w} d q n m =
      d.0 (subst (λ k. Member k (operand_nodes parts)) n (first_in facts modes parts w.node m))

-- what is left behind a value, whatever it is
pub record Behind (how : Use) (e : Expr) (here : Here) (first places : ℕ) (nodes : List ℕ) (os : List Owner) (old : List ℕ) (start now : World) :
    Type 0 where
  pub own : List Owner
  pub later : List ℕ
  pub leaves : Leaves here.level nodes (waiting here.facts here.modes e how) own later
  pub out : ℕ → ℕ
  pub stage : StageWith out (at_nodes here.level (value_nodes e)) own os first places later old start now

abbrev pub behind_value : (here : Here) {first places : ℕ} {os : List Owner} (e : Expr)
    (how : Use) {nodes old : List ℕ} {start : World} {v : Value} {now : World} → Distinct (value_nodes e) →
    HasValue here first places os e how nodes old start v now → Behind how e here first places nodes os old start now
behind_value here e how {nodes} d (is_bare {ms = ms} {later = later} which a none s h) = record {
  own = ms;
  later = later;
  leaves = subst (λ ws. Leaves here.level nodes ws ms later) (none_itself here.facts here.modes e how none) a;
  out = no_blocks;
  stage = s;
}
behind_value here e how {nodes} d (is_seen {ms = ms} {later = later} look a none s h) = record {
  own = ms;
  later = later;
  leaves = subst (λ ws. Leaves here.level nodes ws ms later) (none_itself here.facts here.modes e how none) a;
  out = no_blocks;
  stage = s;
}
behind_value here e how {nodes} d (is_held {ms = ms} {later = later} purpose a none h) = record {
  own = ms;
  later = later;
  leaves = subst (λ ws. Leaves here.level nodes ws ms later) (none_itself here.facts here.modes e how none) a;
  out = h.out;
  stage = h.stage;
}
behind_value here e how {nodes} d (is_waiting {ms = ms} {later = later} {ty = ty} a one h) =
    let w : Wait = record { node = (node_of e).number; of = ty; form = form_for here.facts (type_of e) } in
    record {
      own = waiting_cell here.level w ∷ ms;
      later = w.node ∷ without_node later w.node;
      leaves = subst (λ ws. Leaves here.level nodes ws (waiting_cell here.level w ∷ ms) (w.node ∷ without_node later w.node))
          (ap (λ (vs : List Wait). waits_inside here.facts here.modes e ++ vs) (sym one) ∙ waiting_is here.facts here.modes e how)
          (leaves_waits w a (own_apart here.facts here.modes e how d one refl));
      out = no_blocks;
      stage = h.stage;
    }

-- where what is taken has no hooks, nothing is under way
pub out_none : (here : Here) {first places : ℕ} {os : List Owner} (e : Expr)
    (how : Use) {nodes old : List ℕ} {start : World} {v : Value} {now : World} (d : Distinct (value_nodes e)) →
    ((how ≡ Owned) ⊎ (how ≡ ToPlace) → gives_hooked here.facts (type_of e) ≡ false) → (h : HasValue here first places os e how nodes old start v now) →
    (k : ℕ) → no_blocks k ≡ (behind_value here e how d h).out k
out_none here e how d unhooked (is_bare which a none s h) k = refl
out_none here e how d unhooked (is_seen look a none s h) k = refl
out_none here e how d unhooked (is_held purpose a none h) k =
    omega (arith, h.out_is k, ap (times k) (plain_none (sym (hooked_is here.facts (type_of e)) ∙ unhooked purpose) h.under.has))
out_none here e how d unhooked (is_waiting a one h) k = refl

abbrev pub behind_alone : (here : Here) {first places : ℕ} {os : List Owner} (e : Expr)
    (how : Use) {nodes old : List ℕ} {start : World} {v : Value} {now : World} (d : Distinct (value_nodes e)) →
    ((how ≡ Owned) ⊎ (how ≡ ToPlace) → gives_hooked here.facts (type_of e) ≡ false) → (h : HasValue here first places os e how nodes old start v now) →
    Stage (at_nodes here.level (value_nodes e)) (behind_value here e how d h).own os first places (behind_value here e how d h).later old start now
behind_alone here {first} {places} {os} e how {nodes} {old} {start} d unhooked h =
    out_as (at_nodes here.level (value_nodes e)) os first places old start (out_none here e how d unhooked h) (behind_value here e how d h).stage

-- a value without hooks has no blocks
pub value_bare : (here : Here) {first places : ℕ} {os : List Owner} (e : Expr)
    (how : Use) {nodes old : List ℕ} {start : World} {v : Value} {now : World} → gives_hooked here.facts (type_of e) ≡ false →
    HasValue here first places os e how nodes old start v now → Bare (form_for here.facts (type_of e)) v
value_bare here e how q (is_bare which a none s h) = h
value_bare here e how q (is_seen look a none s h) = λ world. plain_anywhere world Constant (sym (hooked_is here.facts (type_of e)) ∙ q) h
value_bare here e how q (is_held purpose a none h) = λ world. plain_anywhere world Constant (sym (hooked_is here.facts (type_of e)) ∙ q) (from_full h.under.has)
value_bare here e how q (is_waiting a one h) = absurd (none_is_one (sym (plain_itself here.facts here.modes e how q) ∙ one))
