-- Before all modules, and where a module begins.
use Rattle.std.proofs.Common.{◌≡◌, ℕ, zero, suc, ◌<◌, List, [], ◌∷◌, ◌++◌}
use Rattle.std.proofs.Common.{length, refl, sym, ap, ap₂, ◌∙◌, subst, arith, inl, inr}
use Rattle.std.specs.Prelude.{pos, codes, map, Ok, Err, slice_get, Result, OnOk}
use Rattle.nim_types.specs.declared.types.TypeDef.{TypeDef}
use Rattle.nim_types.specs.declared.types.TypeDef.TheVariants as D
use Rattle.nim_types.specs.Types as type
use Rattle.nim_types.specs.Types.{Ty, Facts}
use Rattle.nim_types.specs.Forms.{plain, block, of_int, of_bool, of_char, of_text}
use Rattle.nim_types.specs.Table.{type_at, types_in, facts_in, meant, Adds}
use Rattle.nim_program.specs.Program.{Number, Proc, Declared}
use Rattle.nim_program.specs.View.{proc_of, declared_of}
use Rattle.expr_rules.specs.Answers.{Answer}
use Rattle.expr_rules.specs.Env.{Env, Entry, named, constant, input, outermost}
use Rattle.expr_parts.specs.declared.scope.What.{What}
use Rattle.expr_parts.specs.declared.scope.What.TheVariants as what
use Rattle.expr_parts.specs.declared.scope.Kinds.{Kinds}
use Rattle.expr_parts.specs.declared.scope.Scope.{Scope}
use Rattle.expr_parts.specs.View.{Under, KindsIn, AllFormed, DeclsWithin, entry_of, env_of}
use Rattle.expr_parts.proofs.ForCallers.{int_below, bool_below, text_below, char_below, int_under, bool_under, text_under, char_under}
use Rattle.decl_rules.specs.State.{State, Stated, entered, Item, is_completed}
use Rattle.decl_rules.specs.Elaborated.{nothing_known}
use Rattle.check_uses.specs.View.{items_of}
use Rattle.decl_parts.proofs.ForCallers.{scope_by}
use Rattle.decl_heads.specs.ViewHeads.{holds_at}
use Rattle.check_decls.specs.declared.draft.Draft.{Draft}
use Rattle.check_decls.specs.View.{first_types, first_kinds, first_decls, truth_of, decl_of, with_decl}
use Rattle.check_decls.specs.View.{IsFirst, AllStand, Sound, Begins, beside_of, known_in, onto}

-- ---- the types that no source declares

abbrev Lacks : List TypeDef → TypeDef → Type 0
Lacks ds t = (j : ℕ) → j < length ds → type_at (types_in ds) j ≡ meant (types_in ds) t → ⊥

one_added : (old new : List TypeDef) (t : TypeDef) (id : ℕ) → Lacks old t → Adds old t id new → (new ≡ old ++ t ∷ []) × (id ≡ length old)
one_added old new t id lacks (inl k) = absurd (lacks id k.within k.equal)
one_added old new t id lacks (inr a) = (a.more, a.next)

no_int : (j : ℕ) → j < 0 → type_at [] j ≡ type.int → ⊥
no_int j h e = absurd (omega (arith, h))

no_bool : (j : ℕ) → j < 1 → type_at (type.int ∷ []) j ≡ type.bool → ⊥
no_bool zero h e = cc
no_bool (suc j) h e = absurd (omega (arith, h))

no_char : (j : ℕ) → j < 2 → type_at (type.int ∷ type.bool ∷ []) j ≡ type.char → ⊥
no_char zero h e = cc
no_char (suc zero) h e = cc
no_char (suc (suc j)) h e = absurd (omega (arith, h))

no_text : (j : ℕ) → j < 3 → type_at (type.int ∷ type.bool ∷ type.char ∷ []) j ≡ type.text → ⊥
no_text zero h e = cc
no_text (suc zero) h e = cc
no_text (suc (suc zero)) h e = cc
no_text (suc (suc (suc j))) h e = absurd (omega (arith, h))

abbrev kinds_of : (int bool char text : ℕ) → Kinds
kinds_of i j k l = record { int = i; bool = j; char = k; text = l }

added_by : (old new all : List TypeDef) (t : TypeDef) (id : ℕ) → old ≡ all → Lacks all t → Adds old t id new
    → (new ≡ all ++ t ∷ []) × (id ≡ length all)
added_by old new all t id e lacks a = one_added all new t id lacks (subst (λ ds. Adds ds t id new) e a)

pub all_added : (a b c d e : List TypeDef) (i j k l : ℕ) → a ≡ [] → Adds a D.Int i b → Adds b D.Bool j c → Adds c D.Char k d → Adds d D.Text l e
    → (e ≡ first_types) × (kinds_of i j k l ≡ first_kinds)
all_added a b c d e i j k l none int bool char text =
    let one = added_by a b [] D.Int i none no_int int in
    let two = added_by b c (D.Int ∷ []) D.Bool j one.0 no_bool bool in
    let three = added_by c d (D.Int ∷ D.Bool ∷ []) D.Char k two.0 no_char char in
    let four = added_by d e (D.Int ∷ D.Bool ∷ D.Char ∷ []) D.Text l three.0 no_text text in
    (four.0, ap₂ (λ x y. kinds_of x y k l) one.1 two.1 ∙ ap₂ (kinds_of 0 1) three.1 four.1)

first_formed : AllFormed first_types
first_formed zero h = (plain, of_int)
first_formed (suc zero) h = (plain, of_bool)
first_formed (suc (suc zero)) h = (plain, of_char)
first_formed (suc (suc (suc zero))) h = (block, of_text)
first_formed (suc (suc (suc (suc i)))) h = absurd (omega (arith, h))

first_in : KindsIn first_types first_kinds
first_in = record { int = refl; bool = refl; char = refl; text = refl }

abbrev pub empty_scope : Kinds → Scope
empty_scope kinds = record { decls = []; kinds = kinds; home = 0 }

pub first_sound : (d : Draft) → IsFirst d → Sound d
first_sound d h = record {
  ready = record {
    all = record {
      formed = subst AllFormed (sym h.types) first_formed;
      kinds = subst (λ ds. KindsIn ds d.state.scope.kinds) (sym h.types)
          (subst (λ (s : Scope). KindsIn first_types s.kinds) (sym h.scope) first_in);
      decls = subst (λ (s : Scope). DeclsWithin (length d.state.types) s.decls) (sym h.scope) tt;
    };
    outside = omega (arith, h.outside);
  };
  text = subst (λ t. AllStand (length d.procs.items) (length d.start.items) t) (sym h.text) tt;
  completed = λ ts u. record {
    count = ap length h.completed ∙ sym (ap (λ l. length (map (proc_of ts) l)) h.procs);
    each = λ p.
        ap (λ t. is_completed p (items_of ts d.procs.items d.start.items t)) h.text ∙ sym (ap (λ l. holds_at (slice_get l p)) h.completed);
  };
}

abbrev state_by : Env → ℕ → ℕ → ℕ → List Proc → List Declared → List Item → State
state_by env outside node place procs globals text =
    record { env = env; outside = outside; node = node; place = place; procs = procs; globals = globals; text = text }

abbrev env_by : List TypeDef → Scope → List Ty → Env
env_by ds scope ts = env_of ts (facts_in ds) scope

pub first_known : (ts : List Ty) (d : Draft) → IsFirst d → known_in ts d ≡ nothing_known
first_known ts d h =
    ap₂ (λ ds s. state_by (env_by ds s ts) d.state.outside d.state.node d.state.place (beside_of ts d).procs (map (declared_of ts) d.state.globals)
    (beside_of ts d).text) h.types h.scope
    ∙ ap₂ (λ m n. state_by nothing_known.env m n d.state.place (beside_of ts d).procs (map (declared_of ts) d.state.globals) (beside_of ts d).text)
    h.outside h.node
    ∙ ap₂ (λ n g. state_by nothing_known.env 0 0 n (beside_of ts d).procs (map (declared_of ts) g) (beside_of ts d).text) h.place h.globals
    ∙ ap₂ (λ l t. state_by nothing_known.env 0 0 0 (map (proc_of ts) l) [] (items_of ts d.procs.items d.start.items t)) h.procs h.text

pub onto_nothing : (x : Answer Stated) → onto [] x ≡ x
onto_nothing (Ok s) = refl
onto_nothing (Err e) = refl

-- ---- where a module begins

abbrev entries_by : (int bool char text : Ty) → List Entry
entries_by i b c t =
    named (codes "int") i
    ∷ named (codes "bool") b
    ∷ named (codes "char") c
    ∷ named (codes "string") t
    ∷ constant (codes "false") b (Number (pos 0))
    ∷ constant (codes "true") b (Number (pos 1))
    ∷ input (codes "stdin")
    ∷ []

built_in : (ds : List TypeDef) (ts : List Ty) (facts : Facts) (kinds : Kinds) → Under ds ts facts → KindsIn ds kinds
    → map (entry_of ts) (first_decls kinds) ≡ outermost
built_in ds ts facts kinds u k =
    ap₂ (λ i b. entries_by i b (type_at ts kinds.char) (type_at ts kinds.text)) (int_under u k) (bool_under u k)
    ∙ ap₂ (entries_by type.int type.bool) (char_under u k) (text_under u k)

abbrev pub module_draft : Draft → Scope → ℕ → Draft
module_draft d scope count = record d { state = record d.state { scope = scope; outside = count } }

abbrev first_scope : Kinds → ℕ → Scope
first_scope kinds home = record { decls = first_decls kinds; kinds = kinds; home = home }

begun : (d : Draft) (number : ℕ) → Sound d → Begins d (module_draft d (first_scope d.state.scope.kinds number) 7) number
begun d number h =
    let k = h.ready.all.kinds in
    let n = length d.state.types in
    record {
      types = refl;
      start = refl;
      sound = record {
        ready = record {
          all = record {
            formed = h.ready.all.formed;
            kinds = k;
            decls = (int_below k, (bool_below k, (char_below k, (text_below k, (bool_below k, (bool_below k, (tt, tt)))))));
          };
          outside = omega arith;
        };
        text = h.text;
        completed = h.completed;
      };
      known = λ ts u.
          ap (λ es. entered (record (known_in ts d) { env = record { entries = es; facts = (known_in ts d).env.facts; home = number } }))
          (built_in d.state.types ts (facts_in d.state.types) d.state.scope.kinds u k);
    }

pub module_begun : (d : Draft) (scope : Scope) (count number : ℕ) → Sound d
    → scope ≡ record { decls = first_decls d.state.scope.kinds; kinds = d.state.scope.kinds; home = number } → count ≡ length scope.decls
    → Begins d (module_draft d scope count) number
module_begun d scope count number h e c =
    let seven : count ≡ 7 = c ∙ ap (λ (s : Scope). length s.decls) e in
    subst (λ (s : Scope). Begins d (module_draft d s count) number) (sym e)
    (subst (λ n. Begins d (module_draft d (first_scope d.state.scope.kinds number) n) number) (sym seven) (begun d number h))

pub all_declared : (kinds : Kinds) (home : ℕ) (a b c d e f g h : Scope) → a ≡ record { decls = []; kinds = kinds; home = home }
    → b ≡ with_decl a (decl_of (codes "int") (what.Type kinds.int)) → c ≡ with_decl b (decl_of (codes "bool") (what.Type kinds.bool))
    → d ≡ with_decl c (decl_of (codes "char") (what.Type kinds.char)) → e ≡ with_decl d (decl_of (codes "string") (what.Type kinds.text))
    → f ≡ with_decl e (decl_of (codes "false") (truth_of kinds (pos 0))) → g ≡ with_decl f (decl_of (codes "true") (truth_of kinds (pos 1)))
    → h ≡ with_decl g (decl_of (codes "stdin") what.Input) → h ≡ record { decls = first_decls kinds; kinds = kinds; home = home }
all_declared kinds home a b c d e f g h none int bool char text falsehood truth stdin =
    stdin
    ∙ ap (λ s. with_decl s (decl_of (codes "stdin") what.Input)) (truth
    ∙ ap (λ s. with_decl s (decl_of (codes "true") (truth_of kinds (pos 1)))) (falsehood
    ∙ ap (λ s. with_decl s (decl_of (codes "false") (truth_of kinds (pos 0)))) (text
    ∙ ap (λ s. with_decl s (decl_of (codes "string") (what.Type kinds.text))) (char
    ∙ ap (λ s. with_decl s (decl_of (codes "char") (what.Type kinds.char))) (bool
    ∙ ap (λ s. with_decl s (decl_of (codes "bool") (what.Type kinds.bool))) (int
    ∙ ap (λ s. with_decl s (decl_of (codes "int") (what.Type kinds.int))) none))))))

-- one more declaration
pub declared_by : {T E : Type 0} (old new : Scope) (name word : List ℕ) (w : What) (r : Result T E) → name ≡ word
    → OnOk r (new.decls ≡ old.decls ++ decl_of name w ∷ []) → new.kinds ≡ old.kinds → new.home ≡ old.home
    → OnOk r (new ≡ with_decl old (decl_of word w))
declared_by old new name word w (Ok x) e d k h = scope_by old new d k h ∙ ap (λ n. with_decl old (decl_of n w)) e
declared_by old new name word w (Err s) e d k h = tt
