-- Constants.
use Rattle.std.proofs.Common.{◌≡◌, refl, sym, ap, ◌∙◌, ℕ, Bool, true, false, inl, inr, List, [], ◌∷◌, Option}
use Rattle.std.specs.Prelude.{◌&&◌}
use Rattle.std.proofs.lemmas.Bool.{and_right}
use Rattle.nim_types.specs.Types.{Ty}
use Rattle.nim_types.specs.Forms.{Form, block, wrapped, hooked}
use Rattle.nim_program.specs.declared.expr.Node.{Node}
use Rattle.nim_program.specs.declared.operation.Use.{Use}
use Rattle.nim_program.specs.declared.operation.Use.TheVariants.{Owned, Given as ToPlace, Held, Lent, Looked}
use Rattle.nim_program.specs.Program.{Giving, Literal, Number as ANumber, Characters, NoObject, PartsOf, ElementsOf, Expr, Apply, NoArg}
use Rattle.nim_program.specs.Scopes as scopes
use Rattle.nim_meaning.specs.ActTree as points
use Rattle.nim_meaning.specs.Ways.{At as Spot}
use Rattle.nim_meaning.specs.Values.{Value, Fixed, Made, Waiting, literal_value, at_base}
use Rattle.nim_meaning.specs.State.{World, State}
use Rattle.nim_meaning.specs.Acts.{with_trail}
use Rattle.nim_meaning.specs.Deeds as deeds
use Rattle.nim_meaning.specs.Deeds.{Deed, carry}
use Rattle.nim_meaning.specs.Here.{Here, gives_hooked, form_for}
use Rattle.nim_meaning.specs.Lifted.{copied, fresh_text}
use Rattle.nim_meaning.specs.Places.{Destination, kept_for, made_by}
use Rattle.nim_meaning.specs.Waiting.{Wait, wait_if}
use Rattle.nim_meaning.specs.Table.{constant_for, literal_bytes}
use Rattle.nim_meaning.specs.Shapes.{is_held as is_held_use, waits, waits_from}
use Rattle.holders.specs.Owned.{Extent, Has, in_program, here as at_once, constant_text, of_wrapped}
use Rattle.holders.specs.Sure.{Sure, Comes}
use Rattle.holders.specs.Territory.{Owner, NoBaseOf}
use Rattle.holders.specs.Finding.{Read}
use Rattle.holders.specs.Handing.{HandsOut}
use Rattle.holders.specs.Running.{Region}
use Rattle.holders.specs.Staging.{Stage, Holding}
use Rattle.holders.specs.Used.{Made as MadeSo}
use Rattle.holders.proofs.Sure.{sure_then, sure_weaker}
use Rattle.holders.proofs.Framing.{stage_begins}
use Rattle.holders.proofs.Rows.{copies_out, text_comes}
use Rattle.holders.proofs.Reading.{waits_there}
use Rattle.holders.proofs.Making.{copy_so as made_row}
use Rattle.holders.proofs.Staging.{stage_hands, no_given}
use Rattle.holders.proofs.Coming.{comes_carried}
use Rattle.holders.specs.Asked.{Limits}
use Rattle.holders.specs.Evaluating.{at_nodes, waits_itself, Begins, Bare, is_bare, is_held, is_waiting}
use Rattle.holders.proofs.PartsInTurn.{leaves_none, in_is}
use Rattle.holders.specs.Claimed.{NoExit, HasValue, ValueSo}
use Rattle.holders.proofs.Constants.{hooked_is}
use Rattle.holders.proofs.Applying.{node_off, made_valued}
use Rattle.holders.proofs.WholeOperations.{apply_waits}

-- a text, or a type that is distinct from one
pub data TextForm : Form → Type 0 where
  a_block : TextForm block
  a_distinct : {f : Form} → TextForm f → TextForm (wrapped f)

text_like : {world : World} {x : Extent} {f : Form} {v : Value} {bs : List ℕ} → TextForm f → Has world x block v bs → Has world x f v bs
text_like a_block h = h
text_like (a_distinct t) h = of_wrapped (text_like t h)

text_hooked : {f : Form} → TextForm f → hooked f ≡ true
text_hooked a_block = refl
text_hooked (a_distinct t) = text_hooked t

module _ (here : Here) (scope : scopes.Here) (limits : Limits) (root : (global : Bool) → ℕ → ℕ) (first places : ℕ) (os : List Owner) where
  -- one that has no hooks, or is copied
  module _ (node : Node) (ty : Option Ty) (literal : Literal) (how : Use) (bare : Bare (form_for here.facts ty) (literal_value literal)) (nodes : List ℕ)
      (s : State) (b : Begins here.level first places (node.number ∷ []) os nodes s.world) where
    abbrev e : Expr
    e = Apply node ty (Giving literal) NoArg

    abbrev f : Form
    f = form_for here.facts ty

    abbrev R : Region
    R = at_nodes here.level (node.number ∷ [])

    abbrev Q : Value → World → Type 0
    Q = HasValue here first places os e how nodes b.territory.blocks s.world

    abbrev to : Destination
    to = record { how = how; level = here.level; node = node.number }

    begun : Stage R [] os first places nodes b.territory.blocks s.world s.world
    begun = stage_begins b.territory tt b.active

    off : NoBaseOf (Waiting here.level node.number) os
    off = node_off [] [] node.number b (inl refl) (λ m. elim m [ ]) tt

    unhooked_so : gives_hooked here.facts ty ≡ false → Q (literal_value literal) s.world
    unhooked_so unhooked =
        is_bare (inl (sym (hooked_is here.facts ty) ∙ unhooked)) (leaves_none b.distinct)
        (ap (λ a. wait_if (a && waits_from (Giving literal) how) node.number ty f) unhooked) begun bare

    copy_so : ((purpose : Use) → waits_from (Giving literal) purpose ≡ waits purpose) → gives_hooked here.facts ty ≡ true →
        Sure (deeds.◌>>=◌ (copied f (at_base (Made (literal_value literal)))) (made_by true to)) Q s.world
    copy_so same hooks =
        let deed = copied f (at_base (Made (literal_value literal))) in
        let source : Read f (at_base (Made (literal_value literal))) s.world = record {
          stands_in = literal_value literal;
          value = literal_value literal;
          blocks = [];
          from = record { base = in_program; there = at_once; is = refl };
          has = bare s.world;
        } in
        sure_weaker (deeds.◌>>=◌ deed (made_by true to)) (MadeSo how f node.number R [] os first places nodes b.territory.blocks s.world) Q s.world
        (made_row R [] os first places nodes b.territory.blocks s.world f s.world how node.number deed (in_is node.number (node.number ∷ []) (inl refl)) off
        (sure_weaker deed (HandsOut f os [] begun.runs.territory.blocks s.world)
        (λ v after. Holding f v R [] os first places nodes b.territory.blocks s.world after) s.world (copies_out begun.runs.territory source)
        (λ v after h. stage_hands R os first places b.territory.blocks s.world begun (no_given R os first places b.territory.blocks s.world) h)))
        (λ v after m. made_valued here first places os e (apply_waits here node ty (Giving literal) NoArg same) nodes nodes b.territory.blocks s.world []
        (leaves_none b.distinct) how hooks m)

  -- a literal text
  text_so : (node : Node) (ty : Option Ty) (t : List ℕ) (how : Use) → TextForm (form_for here.facts ty) → (nodes : List ℕ) (s : State)
      (b : Begins here.level first places (node.number ∷ []) os nodes s.world) →
      Sure (made_by true (record { how = how; level = here.level; node = node.number }) (Fixed t))
      (HasValue here first places os (Apply node ty (Giving (Characters t)) NoArg) how nodes b.territory.blocks s.world) s.world
  text_so node ty t how like nodes s b = by how
    where
      R' : Region
      R' = at_nodes here.level (node.number ∷ [])

      f' : Form
      f' = form_for here.facts ty

      own : Use → List Wait
      own how = waits_itself here.facts here.modes (Apply node ty (Giving (Characters t)) NoArg) how

      Q' : Use → Value → World → Type 0
      Q' how v after = HasValue here first places os (Apply node ty (Giving (Characters t)) NoArg) how nodes b.territory.blocks s.world v after

      begun : Stage R' [] os first places nodes b.territory.blocks s.world s.world
      begun = stage_begins b.territory tt b.active

      no_own : (how : Use) → is_held_use how ≡ false → own how ≡ []
      no_own how e = ap (λ b. wait_if b node.number ty f') (and_right (gives_hooked here.facts ty) (is_held_use how) e)

      Text : Value → World → Type 0
      Text v after = Holding f' v R' [] os first places nodes b.territory.blocks s.world after

      -- a new text
      new_text : Sure (fresh_text t) Text s.world
      new_text =
          sure_weaker (fresh_text t) (HandsOut block os [] begun.runs.territory.blocks s.world) Text s.world (text_comes begun.runs.territory t)
          (λ v after h. let g = stage_hands R' os first places b.territory.blocks s.world begun (no_given R' os first places b.territory.blocks s.world) h in
          record {
            out = g.out;
            stage = g.stage;
            out_is = g.out_is;
            under = record {
              given = g.under.given;
              has = text_like like g.under.has;
              distinct = g.under.distinct;
              strange = g.under.strange;
              clear = g.under.clear;
            };
            came = g.came;
          })

      of_text : (how : Use) → ((v : Value) (after : World) → Text v after → Sure (kept_for how here.level node.number v) (Q' how) after) →
          Sure (deeds.◌>>=◌ (fresh_text t) (kept_for how here.level node.number)) (Q' how) s.world
      of_text how keeps = sure_then (fresh_text t) (kept_for how here.level node.number) Text (Q' how) s.world new_text keeps

      off : NoBaseOf (Waiting here.level node.number) os
      off = node_off [] [] node.number b (inl refl) (λ m. elim m [ ]) tt

      by : (how : Use) → Sure (made_by true (record { how = how; level = here.level; node = node.number }) (Fixed t)) (Q' how) s.world
      by Owned = of_text Owned (λ v after h. is_held (inl refl) (leaves_none b.distinct) (no_own Owned refl) h)
      by ToPlace = of_text ToPlace (λ v after h. is_held (inr refl) (leaves_none b.distinct) (no_own ToPlace refl) h)
      by Held =
          of_text Held (λ v after h. is_waiting (leaves_none b.distinct)
          (ap (λ a. wait_if (a && true) node.number ty f') (hooked_is here.facts ty ∙ text_hooked like))
          (waits_there R' [] os first places nodes b.territory.blocks s.world node.number (in_is node.number (node.number ∷ []) (inl refl)) off h))
      by Lent = is_bare (inr (inl refl)) (leaves_none b.distinct) (no_own Lent refl) begun (λ world. text_like like constant_text)
      by Looked = is_bare (inr (inr refl)) (leaves_none b.distinct) (no_own Looked refl) begun (λ world. text_like like constant_text)

  -- ---- all of them

  hooked_giving : (node : Node) (ty : Option Ty) (literal : Literal) (how : Use) → Bare (form_for here.facts ty) (literal_value literal) →
      ((t : List ℕ) → literal ≡ Characters t → TextForm (form_for here.facts ty)) → (nodes : List ℕ) (s : State) → gives_hooked here.facts ty ≡ true →
      (b : Begins here.level first places (node.number ∷ []) os nodes s.world) →
      Sure (deeds.◌>>=◌ (constant_for true (form_for here.facts ty) (literal_bytes literal) (literal_value literal))
      (made_by true (record { how = how; level = here.level; node = node.number })))
      (HasValue here first places os (Apply node ty (Giving literal) NoArg) how nodes b.territory.blocks s.world) s.world
  hooked_giving node ty (Characters t) how bare texts nodes s hooks b = text_so node ty t how (texts t refl) nodes s b
  hooked_giving node ty (ANumber z) how bare texts nodes s hooks b = copy_so node ty (ANumber z) how bare nodes s b (λ purpose. refl) hooks
  hooked_giving node ty NoObject how bare texts nodes s hooks b = copy_so node ty NoObject how bare nodes s b (λ purpose. refl) hooks
  hooked_giving node ty (PartsOf all) how bare texts nodes s hooks b = copy_so node ty (PartsOf all) how bare nodes s b (λ purpose. refl) hooks
  hooked_giving node ty (ElementsOf all) how bare texts nodes s hooks b = copy_so node ty (ElementsOf all) how bare nodes s b (λ purpose. refl) hooks

  pub giving_so : (node : Node) (ty : Option Ty) (literal : Literal) (how : Use) → Bare (form_for here.facts ty) (literal_value literal) →
      ((t : List ℕ) → literal ≡ Characters t → TextForm (form_for here.facts ty)) →
      ValueSo here scope limits root first places os (Apply node ty (Giving literal) NoArg) how
  giving_so node ty literal how bare texts nodes s b scene = by (gives_hooked here.facts ty) refl
    where
      there : State
      there = with_trail (Spot node.number points.Does ∷ s.trail) s

      Q' : Value → World → Type 0
      Q' = HasValue here first places os (Apply node ty (Giving literal) NoArg) how nodes b.territory.blocks s.world

      row_of : Bool → Deed Value
      row_of c = deeds.◌>>=◌ (deeds.costs 1 (constant_for c (form_for here.facts ty) (literal_bytes literal) (literal_value literal)))
          (made_by c (record { how = how; level = here.level; node = node.number }))

      by : (c : Bool) → gives_hooked here.facts ty ≡ c → Comes Q' NoExit (carry (row_of c) there)
      by false unhooked = unhooked_so node ty literal how bare nodes s b unhooked
      by true hooks = comes_carried Q' NoExit (row_of true) there (hooked_giving node ty literal how bare texts nodes s hooks b)
