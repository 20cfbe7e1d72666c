-- Code of which each line becomes another one that does the same shows the same.
use Rattle.std.proofs.Common.{◌≡◌, refl, ap, ◌∙◌, ℕ, List, [], ◌∷◌, map, Option}
use Rattle.flat_code.specs.declared.code.Code.{Code}
use Rattle.flat_code.specs.declared.code.CodeProc.{CodeProc}
use Rattle.flat_code.specs.Scene.{Known, Scene, Did}
use Rattle.flat_code.specs.Running.{runs, runs_within}
use Rattle.flat_code.specs.Codes.{proc_of, procs_of, each_line, by_lines}
use Rattle.flat_code.proofs.LineMaps.{in_proc, runs_map, runs_within_map}

module _ {L M : Type 0} (f : L → M) where
  pub procs_by_lines : (known : Known) (procs : List (CodeProc L)) → map (proc_of known) (map (each_line f) procs) ≡ map (in_proc f) (map (proc_of known) procs)
  procs_by_lines known [] = refl
  procs_by_lines known (p ∷ procs) = ap (λ rest. proc_of known (each_line f p) ∷ rest) (procs_by_lines known procs)

  pub runs_by_lines : (label_of : L → Option ℕ) (label_of' : M → Option ℕ) → ((line : L) → label_of' (f line) ≡ label_of line) →
      (does : Scene → L → Did) (does' : Scene → M → Did) → ((x : Scene) (line : L) → does' x (f line) ≡ does x line) →
      (known : Known) (code : Code L) (heap : ℕ) (input : List ℕ) (n : ℕ) →
      runs label_of' does' (procs_of known (by_lines f code)) heap input n ≡ runs label_of does (procs_of known code) heap input n
  runs_by_lines label_of label_of' same_label does does' same known code heap input n =
      ap (λ procs. runs label_of' does' procs heap input n) (procs_by_lines known code.procs)
      ∙ runs_map f label_of label_of' same_label does does' same (procs_of known code) heap input n

  pub within_by_lines : (label_of : L → Option ℕ) (label_of' : M → Option ℕ) → ((line : L) → label_of' (f line) ≡ label_of line) →
      (does : Scene → L → Did) (does' : Scene → M → Did) → ((x : Scene) (line : L) → does' x (f line) ≡ does x line) →
      (known : Known) (code : Code L) (units heap : ℕ) (input : List ℕ) (n : ℕ) →
      runs_within label_of' does' (procs_of known (by_lines f code)) units heap input n ≡ runs_within label_of does (procs_of known code) units heap input n
  within_by_lines label_of label_of' same_label does does' same known code units heap input n =
      ap (λ procs. runs_within label_of' does' procs units heap input n) (procs_by_lines known code.procs)
      ∙ runs_within_map f label_of label_of' same_label does does' same (procs_of known code) units heap input n
