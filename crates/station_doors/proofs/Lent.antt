-- The numbers under which ports were handed out.
use Rattle.std.proofs.Common.{◌≡◌, ℕ, zero, suc, ◌<◌, length, get_or, List, [], ◌∷◌, ◌++◌, Some, map, true, false, refl, ap, sym, ◌∙◌, arith, nat_eq, if◌then◌else◌}
use Rattle.std.specs.List.{remove, position, All, Contains}
use Rattle.std.proofs.lemmas.List.{map-append}
use Rattle.std.proofs.lemmas.List.Quantifiers.{position-Some}
use Rattle.std.proofs.lemmas.Bool.{ne_eqb}
use Rattle.station_doors.specs.Doors.{without, Returned, TakesBackTold}
use Rattle.station_doors.specs.MemPort.{MemPortValue}
use Rattle.station_doors.specs.MemLink.{MemLinkValue}
use Rattle.station_doors.specs.MemYard.{plan_of, link_plan_of, returned_of, returned_link_of, tells_of, written_by, IsUntouched, IsIdle}
use Rattle.station_doors.specs.declared.files.MemFile.{MemFile}
use Rattle.station_doors.specs.declared.slots.Slot.{Slot}
use Rattle.station_doors.specs.declared.mem_yard.Back.{Back}
use Rattle.station_doors.specs.declared.mem_yard.LinkBack.{LinkBack}

without_at : (n : ℕ) (xs : List ℕ) (i : ℕ) → i < length xs → nat_eq (get_or xs i 0) n ≡ true → ((k : ℕ) → k < i → nat_eq (get_or xs k 0) n ≡ false) → remove xs i ≡ without n xs
without_at n [] i h e f = absurd (omega arith)
without_at n (x ∷ xs) zero h e f = sym (ap (λ b. if b then xs else x ∷ without n xs) e)
without_at n (x ∷ xs) (suc i) h e f = ap (λ (l : List ℕ). x ∷ l) (without_at n xs i (omega arith) e (λ k g. f (suc k) (omega arith))) ∙ sym (ap (λ b. if b then xs else x ∷ without n xs) (f 0 (omega arith)))

-- the first place of a number is taken out
pub removed : (n : ℕ) (xs : List ℕ) (i : ℕ) → Some i ≡ position (λ x. nat_eq x n) xs → remove xs i ≡ without n xs
removed n xs i e = let h = position-Some (λ x. nat_eq x n) xs i 0 (sym e) in without_at n xs i h.0 h.1 h.2

-- the first port is handed out
pub handed : (ports : List MemPortValue) (d : MemPortValue) → 0 < length ports → All IsUntouched ports → (map plan_of ports ≡ plan_of (get_or ports 0 d) ∷ map plan_of (remove ports 0)) × IsUntouched (get_or ports 0 d)
handed [] d h a = absurd (omega arith)
handed (p ∷ ps) d h a = (refl, a 0 d h)

-- the first link is handed out
pub handed_link : (links : List MemLinkValue) (d : MemLinkValue) → 0 < length links → All IsIdle links → (map link_plan_of links ≡ link_plan_of (get_or links 0 d) ∷ map link_plan_of (remove links 0)) × IsIdle (get_or links 0 d)
handed_link [] d h a = absurd (omega arith)
handed_link (k ∷ ks) d h a = (refl, a 0 d h)

written_at : (n : ℕ) (xs : List LinkBack) (i : ℕ) (d : LinkBack) → i < length xs → nat_eq (get_or xs i d).number n ≡ true → ((k : ℕ) → k < i → nat_eq (get_or xs k d).number n ≡ false) → (get_or xs i d).link.written ≡ written_by n (map returned_link_of xs)
written_at n [] i d h e f = absurd (omega arith)
written_at n (x ∷ xs) zero d h e f = sym (ap (λ b. if b then x.link.written else written_by n (map returned_link_of xs)) e)
written_at n (x ∷ xs) (suc i) d h e f = written_at n xs i d (omega arith) e (λ k g. f (suc k) (omega arith)) ∙ sym (ap (λ b. if b then x.link.written else written_by n (map returned_link_of xs)) (f 0 (omega arith)))

-- what was written to the first link of a number
pub wrote : (n : ℕ) (xs : List LinkBack) (i : ℕ) (d : LinkBack) → Some i ≡ position (λ (b : LinkBack). nat_eq b.number n) xs → (get_or xs i d).link.written ≡ written_by n (map returned_link_of xs)
wrote n xs i d e = let h = position-Some (λ (b : LinkBack). nat_eq b.number n) xs i d (sym e) in written_at n xs i d h.0 h.1 h.2

-- where there is none
pub wrote_none : (n : ℕ) (xs : List LinkBack) → All (λ (b : LinkBack). b.number ≡ n → ⊥) xs → [] ≡ written_by n (map returned_link_of xs)
wrote_none n [] h = refl
wrote_none n (x ∷ xs) h = wrote_none n xs (λ i d k. h (suc i) d (omega arith)) ∙ sym (ap (λ b. if b then x.link.written else written_by n (map returned_link_of xs)) (other x.number n (h 0 x (omega arith))))
  where
    other : (a b : ℕ) → (a ≡ b → ⊥) → nat_eq a b ≡ false
    other a b d = ne_eqb a b d

-- a port is given back under a number that was handed out
pub took_back : (ports : List MemPortValue) (links : List MemLinkValue) (fails out outs links_out : List ℕ) (back backs : List Back) (links_back : List LinkBack) (files : List MemFile) (disks : List Slot) (lane : ℕ) (port : MemPortValue)
    → Contains out lane → outs ≡ without lane out → backs ≡ back ++ record { lane = lane; port = port } ∷ []
    → TakesBackTold lane port.shows (tells_of ports links fails out links_out back links_back files disks) (Some (tells_of ports links fails outs links_out backs links_back files disks))
took_back ports links fails out outs links_out back backs links_back files disks lane port stood left put = record {
  lent = λ _. ap (λ (l : List ℕ). Some (tells_of ports links fails l links_out backs links_back files disks)) left
      ∙ ap (λ (l : List Returned). Some (record (tells_of ports links fails (without lane out) links_out back links_back files disks) { back = l })) (ap (λ (l : List Back). map returned_of l) put ∙ map-append returned_of back (record { lane = lane; port = port } ∷ []));
  dropped = λ no. absurd (no stood);
}
