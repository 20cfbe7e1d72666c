-- What is declared before the first definition of a section is read.
use Rattle.std.proofs.Common.{◌≡◌, ℕ, zero, suc, ◌≤◌, List, [], ◌∷◌, ◌++◌, length, drop, None, Some, refl, sym, ap, ap₂, subst}
use Rattle.std.proofs.Common.{◌∙◌, arith}
use Rattle.std.proofs.Common.{append_assoc, append-nil, length-append}
use Rattle.std.specs.Prelude.{Bool, true, false, ◌||◌, if◌then◌else◌, replicate, Option, slice_get}
use Rattle.std.proofs.lemmas.Option.{none-some, same_Some}
use Rattle.std.specs.HashSet.{HashSet, contains}
use Rattle.std.proofs.lemmas.Cmp.{nat_list_eq_equiv}
use Rattle.std.proofs.lemmas.List.{drop-map}
use Rattle.indent_scanner.specs.Words.{normal}
use Rattle.nim_tree.specs.Types.{Declaration}
use Rattle.nim_types.specs.declared.types.TypeDef.{TypeDef}
use Rattle.nim_types.specs.Types.{Ty, Key, Facts, same_text}
use Rattle.nim_types.specs.Table.{facts_in}
use Rattle.expr_rules.specs.Constructions.{is_among}
use Rattle.expr_rules.specs.Env.{Env, Entry}
use Rattle.expr_parts.specs.declared.scope.Decl.{Decl}
use Rattle.expr_parts.specs.declared.scope.Scope.{Scope}
use Rattle.expr_parts.specs.View.{Under, entry_of, env_of, DeclsWithin}
use Rattle.expr_parts.specs.ViewDecls.{declares}
use Rattle.decl_rules.specs.State.{State, is_declared}
use Rattle.decl_rules.specs.Meanings.{keys_of}
use Rattle.decl_rules.specs.Sections.{none_read}
use Rattle.decl_types.specs.ViewReading.{all_defined}
use Rattle.decl_sections.specs.declared.starting.Frame.{Frame}
use Rattle.decl_sections.specs.declared.starting.Reading.{Reading}
use Rattle.decl_types.specs.declared.known.Definition.{Definition}
use Rattle.decl_types.specs.ViewKnown.{Holds}
use Rattle.decl_types.specs.ViewPlaces.{Ascends, AllFar}
use Rattle.decl_types.specs.ViewScoped.{own_in, numbers_by, decls_by, type_decl, AreKnown, Reads}
use Rattle.decl_sections.specs.ViewSections.{none_known}
use Rattle.decl_sections.specs.ViewWalk.{own_by, Begins, Framed, StageOf}
use Rattle.decl_types.proofs.ForCallers.{all_differ, holds_none, no_key_among}
use Rattle.decl_types.proofs.ForCallers.{all_away}
use Rattle.decl_sections.proofs.Declaring.{declared_as, declares_both}

-- ---- one after another

drop_more : (n : ℕ) (xs ys : List Decl) → n ≤ length xs → drop n (xs ++ ys) ≡ drop n xs ++ ys
drop_more zero xs ys h = refl
drop_more (suc n) [] ys h = absurd (omega (arith, h))
drop_more (suc n) (x ∷ xs) ys h = drop_more n xs ys (omega (arith, h))

-- what is declared so far, and what the rest gives
pub record StartsLeft (own : List ℕ → Bool) (outside : ℕ) (all_numbers : List ℕ) (all_decls : List Decl) (rest : List Declaration) (number : ℕ)
    (decls : List Decl) (numbers : List ℕ) : Type 0 where
  pub names : List (List ℕ)
  pub within : outside ≤ length decls
  pub named : (x : List ℕ) → declares x (drop outside decls) ≡ (own x || is_among x names)
  pub numbers_left : all_numbers ≡ numbers ++ numbers_by own names number rest
  pub decls_left : all_decls ≡ decls ++ decls_by own names (none_known rest) rest

or_false : (b : Bool) → b ≡ (b || false)
or_false true = refl
or_false false = refl

pub starts_first : (outside : ℕ) (decls : List Decl) (all : List Declaration) → outside ≤ length decls
    → StartsLeft (λ x. declares x (drop outside decls)) outside (numbers_by (λ x. declares x (drop outside decls)) [] 0 all)
    (decls ++ decls_by (λ x. declares x (drop outside decls)) [] (none_known all) all) all 0 decls []
starts_first outside decls all h = record {
  names = [];
  within = h;
  named = λ x. or_false (declares x (drop outside decls));
  numbers_left = refl;
  decls_left = refl;
}

pub starts_next : (own : List ℕ → Bool) (outside : ℕ) (all_numbers : List ℕ) (all_decls : List Decl) (d : Declaration) (rest : List Declaration)
    (number : ℕ) (decls more : List Decl) (numbers now : List ℕ) → StartsLeft own outside all_numbers all_decls (d ∷ rest) number decls numbers
    → more ≡ (if declares (normal d.name.text) (drop outside decls) then decls else decls ++ type_decl (normal d.name.text) None ∷ [])
    → now ≡ (if declares (normal d.name.text) (drop outside decls) then numbers else numbers ++ number ∷ [])
    → StartsLeft own outside all_numbers all_decls rest (suc number) more now
starts_next own outside all_numbers all_decls d rest number decls more numbers now h e f =
    by_name (declares (normal d.name.text) (drop outside decls)) (sym (h.named (normal d.name.text))) e f
  where
    swap : (a b c : Bool) → ((a || b) || c) ≡ (a || (c || b))
    swap true b c = refl
    swap false true true = refl
    swap false true false = refl
    swap false false true = refl
    swap false false false = refl

    by_name : (b : Bool) → (own (normal d.name.text) || is_among (normal d.name.text) h.names) ≡ b
        → more ≡ (if b then decls else decls ++ type_decl (normal d.name.text) None ∷ []) → now ≡ (if b then numbers else numbers ++ number ∷ [])
        → StartsLeft own outside all_numbers all_decls rest (suc number) more now
    by_name true t e f = record {
      names = h.names;
      within = let l = ap length e in let w = h.within in omega (arith, l, w);
      named = λ x. ap (λ ds. declares x (drop outside ds)) e ∙ h.named x;
      numbers_left =
          h.numbers_left
          ∙ ap₂ (λ (ns : List ℕ) (b : Bool). ns ++ (if b then numbers_by own h.names (suc number) rest
          else number ∷ numbers_by own (normal d.name.text ∷ h.names) (suc number) rest)) (sym f) t;
      decls_left =
          h.decls_left
          ∙ ap₂ (λ (ds : List Decl) (b : Bool). ds ++ (if b then decls_by own h.names (none_known rest) rest
          else type_decl (normal d.name.text) None ∷ decls_by own (normal d.name.text ∷ h.names) (none_known rest) rest)) (sym e) t;
    }
    by_name false t e f = record {
      names = normal d.name.text ∷ h.names;
      within =
          let l = ap length e in
          let w = h.within in
          omega (arith, l, w, length-append decls (type_decl (normal d.name.text) None ∷ []));
      named = λ x.
          ap (λ ds. declares x (drop outside ds)) e ∙ ap (declares x) (drop_more outside decls (type_decl (normal d.name.text) None ∷ []) h.within)
          ∙ declares_both x (drop outside decls) (type_decl (normal d.name.text) None ∷ [])
          ∙ ap₂ (λ a b. a || b) (h.named x) (sym (or_false (same_text x (normal d.name.text))))
          ∙ swap (own x) (is_among x h.names) (same_text x (normal d.name.text));
      numbers_left =
          h.numbers_left
          ∙ ap (λ (b : Bool). numbers ++ (if b then numbers_by own h.names (suc number) rest
          else number ∷ numbers_by own (normal d.name.text ∷ h.names) (suc number) rest)) t
          ∙ sym (append_assoc numbers (number ∷ []) (numbers_by own (normal d.name.text ∷ h.names) (suc number) rest))
          ∙ ap (λ ns. ns ++ numbers_by own (normal d.name.text ∷ h.names) (suc number) rest) (sym f);
      decls_left =
          h.decls_left
          ∙ ap (λ (b : Bool). decls ++ (if b then decls_by own h.names (none_known rest) rest
          else type_decl (normal d.name.text) None ∷ decls_by own (normal d.name.text ∷ h.names) (none_known rest) rest)) t
          ∙ sym (append_assoc decls (type_decl (normal d.name.text) None ∷ []) (decls_by own (normal d.name.text ∷ h.names) (none_known rest) rest))
          ∙ ap (λ ds. ds ++ decls_by own (normal d.name.text ∷ h.names) (none_known rest) rest) (sym e);
    }

pub starts_last : (own : List ℕ → Bool) (outside : ℕ) (all_numbers : List ℕ) (all_decls : List Decl) (number : ℕ) (decls : List Decl)
    (numbers : List ℕ)
    → StartsLeft own outside all_numbers all_decls [] number decls numbers → (numbers ≡ all_numbers) × (decls ≡ all_decls)
starts_last own outside all_numbers all_decls number decls numbers h =
    (sym (append-nil numbers) ∙ sym h.numbers_left, sym (append-nil decls) ∙ sym h.decls_left)

-- ---- a set of names

abbrev pub NamesLeft : {S : Type 0} → HashSet (List ℕ) S → (all rest : List (List ℕ)) → Type 0
NamesLeft set all rest = (x : List ℕ) → is_among x all ≡ (contains same_text set x || is_among x rest)

pub names_next : {S R : Type 0} (set : HashSet (List ℕ) S) (new : HashSet (List ℕ) R) (all rest : List (List ℕ)) (x : List ℕ)
    → NamesLeft set all (x ∷ rest) → ((q : List ℕ) → contains same_text new q ≡ (if same_text x q then true else contains same_text set q))
    → NamesLeft new all rest
names_next set new all rest x h more = λ q.
    h q ∙ ap (λ b. contains same_text set q || (b || is_among q rest)) (sym (nat_list_eq_equiv.symm x q))
    ∙ turned (same_text x q) (contains same_text set q) (is_among q rest) ∙ ap (λ b. b || is_among q rest) (sym (more q))
  where
    turned : (a b c : Bool) → (b || (a || c)) ≡ ((if a then true else b) || c)
    turned true true c = refl
    turned true false c = refl
    turned false b c = refl

-- ---- nothing has been read

unknown_all : (ts : List Ty) (all : List Declaration) → AreKnown ts [] (keys_of all) (none_known all)
unknown_all ts [] = tt
unknown_all ts (d ∷ rest) = (refl, unknown_all ts rest)

pub none_is : (all : List Declaration) → replicate (length all) None ≡ none_known all
none_is [] = refl
none_is (d ∷ rest) = ap (λ l. None ∷ l) (none_is rest)

pub none_count : (all : List Declaration) → length (none_known all) ≡ length all
none_count [] = refl
none_count (d ∷ rest) = ap suc (none_count rest)

nothing_read : (n m : ℕ) (keys : List Key) → Reads n m keys []
nothing_read n m keys = record { sound = λ i d e. cc; key = λ i d e. cc; within = omega arith }

own_is : (ts : List Ty) (st : State) (ds : List TypeDef) (scope : Scope) (outside : ℕ) → st.env ≡ env_of ts (facts_in ds) scope → st.outside ≡ outside
    → (x : List ℕ) → own_by outside scope.decls x ≡ own_in st x
own_is ts st ds scope outside e o x =
    declared_as ts x (drop outside scope.decls) ∙ ap (is_declared x) (sym (drop-map (entry_of ts) outside scope.decls))
    ∙ ap₂ (λ (n : ℕ) (es : List Entry). is_declared x (drop n es)) (sym o) (sym (ap (λ (env : Env). env.entries) e))

pub begun_frame : (ts : List Ty) (st : State) (ds : List TypeDef) (old new : Scope) (outside home last : ℕ) (all : List Declaration) (frame : Frame)
    (reading : Reading) (facts : Facts) → Begins old new outside all frame reading → outside ≤ length old.decls → Ascends home last all
    → AllFar home last ds → DeclsWithin (length ds) old.decls → Under ds ts facts → st.env ≡ env_of ts (facts_in ds) old → st.outside ≡ outside →
    Framed ts st all old.decls (length ds) frame
begun_frame ts st ds old new outside home last all frame reading facts b le o far w u e out = record {
  fixed = record {
    entries = ap (λ (env : Env). env.entries) e;
    outside = omega (arith, out, le);
    start = b.start;
    numbers = b.numbers ∙ ap (λ (own : List ℕ → Bool). numbers_by own [] 0 all) (λ i x. own_is ts st ds old outside e out x i);
    away = all_away home last all ds ts facts o far u;
    differ = all_differ home last all o;
    none = no_key_among home last all o;
  };
  names = b.names;
  outer = w;
}

pub begun_stage : (ts : List Ty) (st : State) (ds : List TypeDef) (old new : Scope) (outside : ℕ) (all : List Declaration) (frame : Frame)
    (reading : Reading) → Begins old new outside all frame reading → st.env ≡ env_of ts (facts_in ds) old → st.outside ≡ outside
    → StageOf ts st all old.decls (length ds) ds new reading none_read
begun_stage ts st ds old new outside all frame reading b e out = record {
  scoped = record {
    seen = [];
    decls =
        b.decls
        ∙ ap₂ (λ (own : List ℕ → Bool) known. old.decls ++ decls_by own [] known all) (λ i x. own_is ts st ds old outside e out x i) (sym b.known)
        ∙ ap (λ ds. old.decls ++ ds) (sym (append-nil (decls_by (own_in st) [] reading.known.items all)));
    shown = refl;
    home = b.home ∙ sym (ap (λ (env : Env). env.home) e);
    facts = sym (ap (λ (env : Env). env.facts) e) ∙ sym (append-nil st.env.facts);
    knows = record { each = subst (AreKnown ts [] (keys_of all)) (sym b.known) (unknown_all ts all); only = λ key h. refl };
  };
  defined = ap (λ read. all_defined ts (keys_of all) read) (sym b.read);
  reads = subst (Reads (length ds) (length all) (keys_of all)) (sym b.read) (nothing_read (length ds) (length all) (keys_of all));
  names = b.seen;
  fresh = λ x h. cc;
  begins = b.begins ∙ sym out;
  starts = b.starts;
  constants = tt;
}

-- ---- what is known

none_there : (all : List Declaration) (k id : ℕ) → slice_get (none_known all) k ≡ Some (Some id) → ⊥
none_there [] k id e = none-some (Some id) e
none_there (d ∷ all) zero id e = none-some id (same_Some None (Some id) e)
none_there (d ∷ all) (suc k) id e = none_there all k id e

pub begun_holds : (ds : List TypeDef) (all : List Declaration) (known : List (Option ℕ)) (read : List Definition) → known ≡ none_known all → read ≡ []
    → Holds ds known read
begun_holds ds all known read e f =
    holds_none ds known read f (λ k id g. none_there all k id (ap (λ (l : List (Option ℕ)). slice_get l k) (sym e) ∙ g))
