-- Ports and links, as they come back.
use Rattle.std.proofs.Common.{◌≡◌, ℕ, zero, suc, ◌+◌, ◌<◌, List, [], ◌∷◌, ◌++◌, length, reverse, Option, Some, None, true, nat_eq, if◌then◌else◌, refl, sym, ap, ◌∙◌, subst, arith, append-nil, append_assoc, length-append}
use Rattle.std.specs.List.{Contains}
use Rattle.std.proofs.lemmas.List.{reverse-append, reverse-reverse}
use Rattle.std.proofs.lemmas.List.Elements.{Contains-append_left, Contains-push}
use Rattle.std.proofs.lemmas.Bool.{ne_eqb}
use Rattle.std.proofs.lemmas.Bool.Decides.{nat_tests}
use Rattle.wire_io.specs.Aside.{Aside}
use Rattle.station_doors.specs.Doors.{YardValue, Returned, ReturnedLink, TakesBack, TakesLinkBack, without}
use Rattle.station_doors.specs.declared.listening.Listening.{Listening}
use Rattle.station_run.specs.Handed.{AllComeBack, ComeBack, Lends, LendsButRefuses, RefusesWhereTold, LinkShows, LinksComeBack, PortsComeBack, lent, numbered, numbered_links}
use Rattle.station_run.proofs.Handing.{length-numbered, length-numbered_links, lent_next, numbered_more, numbered_links_more}

is_eq : (a b : ℕ) → a ≡ b → nat_eq a b ≡ true
is_eq a b e = grind (arith, nat_tests)

-- the least of the numbers stands last
lent_last : (first n : ℕ) → lent first (n + 1) ≡ lent (first + 1) n ++ first ∷ []
lent_last first zero = let e : first + 0 ≡ first = omega arith in lent_next first 0 ∙ ap (λ (k : ℕ). k ∷ []) e
lent_last first (suc n) =
    let e : first + suc n ≡ (first + 1) + n = omega arith in
    let f : suc n ≡ n + 1 = omega arith in
    lent_next first (suc n) ∙ ap (λ (k : ℕ). k ∷ lent first (suc n)) e ∙ ap (λ (k : ℕ). ((first + 1) + n) ∷ lent first k) f ∙ ap (λ (l : List ℕ). ((first + 1) + n) ∷ l) (lent_last first n)

without_lent : (first n : ℕ) (above : ℕ) (xs : List ℕ) → first < above → without first ((lent above n ++ first ∷ []) ++ xs) ≡ lent above n ++ xs
without_lent first zero above xs h = ap (λ b. if b then xs else first ∷ without first xs) (is_eq first first refl)
without_lent first (suc n) above xs h =
    ap (λ b. if b then (lent above n ++ first ∷ []) ++ xs else (above + n) ∷ without first ((lent above n ++ first ∷ []) ++ xs)) (ne_eqb (above + n) first (λ e. omega (arith, h, e)))
    ∙ ap (λ (l : List ℕ). (above + n) ∷ l) (without_lent first n above xs h)

-- the next that comes back is the least, and is out
pub takes_least : (first n : ℕ) (xs : List ℕ) → without first (lent first (n + 1) ++ xs) ≡ lent (first + 1) n ++ xs
takes_least first n xs = ap (λ (l : List ℕ). without first (l ++ xs)) (lent_last first n) ∙ without_lent first n (first + 1) xs (omega arith)

pub is_out : (first n : ℕ) (xs : List ℕ) → Contains (lent first (n + 1) ++ xs) first
is_out first n xs = Contains-append_left (lent first (n + 1)) xs first (subst (λ (l : List ℕ). Contains l first) (sym (lent_last first n)) (Contains-push (lent (first + 1) n) first))

-- so many of these ports came back, and the others are left, the next one last
pub record Return {P : Type 0} (shows : P → Aside) (old now : Option YardValue) (all left : List P) (lane : ℕ) : Type 0 where
  pub given : List P
  pub all_are : all ≡ given ++ reverse left
  pub count : lane ≡ length given
  pub back : PortsComeBack old now (numbered shows 0 given) (length left)

pub return_none : {P : Type 0} (shows : P → Aside) (old : Option YardValue) (all left : List P) → left ≡ reverse all → Return shows old old all left 0
return_none {P} shows old all left e = record { given = []; all_are = sym (reverse-reverse all) ∙ ap (λ (l : List P). reverse l) (sym e); count = refl; back = at old }
  where
    at : (old : Option YardValue) → PortsComeBack old old [] (length left)
    at None = refl
    at (Some yard) = λ out is. let here : 0 + length left ≡ length left = omega arith in
        ap (λ (l : List ℕ). Some (record yard { out = l })) (is ∙ ap (λ (k : ℕ). lent 0 k ++ out) here) ∙ ap (λ (l : List Returned). Some (record yard { out = lent 0 (length left) ++ out; back = l })) (sym (append-nil yard.back))

-- one more came back
back_more : (old now new : Option YardValue) (back : List Returned) (lane left : ℕ) (shows : Aside) → PortsComeBack old now back (left + 1) → lane ≡ length back → TakesBack lane shows now new
    → PortsComeBack old new (back ++ record { lane = lane; shows = shows } ∷ []) left
back_more None now new back lane left shows e is t = subst (λ (o : Option YardValue). TakesBack lane shows o new) e t
back_more (Some yard) now new back lane left shows b is t = λ out was.
    let more : length (back ++ record { lane = lane; shows = shows } ∷ []) ≡ length back + 1 = length-append back (record { lane = lane; shows = shows } ∷ []) in
    let count : length (back ++ record { lane = lane; shows = shows } ∷ []) + left ≡ length back + (left + 1) = omega (arith, more) in
    let before = b out (was ∙ ap (λ (k : ℕ). lent 0 k ++ out) count) in
    let told = subst (λ (o : Option YardValue). TakesBack lane shows o new) before t in
    let next : without lane (lent (length back) (left + 1) ++ out) ≡ lent (length (back ++ record { lane = lane; shows = shows } ∷ [])) left ++ out =
    ap (λ (k : ℕ). without k (lent (length back) (left + 1) ++ out)) is ∙ takes_least (length back) left out ∙ ap (λ (k : ℕ). lent k left ++ out) (sym more) in
    told.lent (subst (λ (k : ℕ). Contains (lent (length back) (left + 1) ++ out) k) (sym is) (is_out (length back) left out))
    ∙ ap (λ (l : List ℕ). Some (record yard { out = l; back = (yard.back ++ back) ++ record { lane = lane; shows = shows } ∷ [] })) next
    ∙ ap (λ (l : List Returned). Some (record yard { out = lent (length (back ++ record { lane = lane; shows = shows } ∷ [])) left ++ out; back = l })) (append_assoc yard.back back (record { lane = lane; shows = shows } ∷ []))

pub return_more : {P : Type 0} (shows : P → Aside) (old now new : Option YardValue) (all left rest : List P) (lane : ℕ) (p : P) → Return shows old now all left lane → left ≡ rest ++ p ∷ []
    → TakesBack lane (shows p) now new → Return shows old new all rest (lane + 1)
return_more {P} shows old now new all left rest lane p r e t =
    let turned : reverse left ≡ p ∷ reverse rest = ap (λ (l : List P). reverse l) e ∙ reverse-append rest (p ∷ []) in
    let long : length left ≡ length rest + 1 = ap (λ (l : List P). length l) e ∙ length-append rest (p ∷ []) in
    let here : lane ≡ length (numbered shows 0 r.given) = r.count ∙ sym (length-numbered shows 0 r.given) in
    let place : 0 + length r.given ≡ lane = omega (arith, r.count) in
    let one : List Returned = record { lane = lane; shows = shows p } ∷ [] in
    let pushed : numbered shows 0 r.given ++ one ≡ numbered shows 0 (r.given ++ p ∷ []) = sym (numbered_more shows 0 r.given p ∙ ap (λ (k : ℕ). numbered shows 0 r.given ++ record { lane = k; shows = shows p } ∷ []) place) in
    record {
      given = r.given ++ p ∷ [];
      all_are = r.all_are ∙ ap (λ (l : List P). r.given ++ l) turned ∙ sym (append_assoc r.given (p ∷ []) (reverse rest));
      count = omega (arith, r.count, length-append r.given (p ∷ []));
      back = subst (λ (l : List Returned). PortsComeBack old new l (length rest)) pushed (back_more old now new (numbered shows 0 r.given) lane (length rest) (shows p) (subst (λ (k : ℕ). PortsComeBack old now (numbered shows 0 r.given) k) long r.back) here t);
    }

-- the same of links
pub record ReturnLinks {K : Type 0} (shows : K → LinkShows) (old now : Option YardValue) (all left : List K) (number : ℕ) : Type 0 where
  pub given : List K
  pub all_are : all ≡ given ++ reverse left
  pub count : number ≡ length given
  pub back : LinksComeBack old now (numbered_links shows 0 given) (length left)

links_back_more : (old now new : Option YardValue) (back : List ReturnedLink) (left : ℕ) (link : ReturnedLink) → LinksComeBack old now back (left + 1) → link.number ≡ length back → TakesLinkBack link now new
    → LinksComeBack old new (back ++ link ∷ []) left
links_back_more None now new back left link e is t = subst (λ (o : Option YardValue). TakesLinkBack link o new) e t
links_back_more (Some yard) now new back left link b is t = λ out was.
    let more : length (back ++ link ∷ []) ≡ length back + 1 = length-append back (link ∷ []) in
    let count : length (back ++ link ∷ []) + left ≡ length back + (left + 1) = omega (arith, more) in
    let before = b out (was ∙ ap (λ (k : ℕ). lent 0 k ++ out) count) in
    let told = subst (λ (o : Option YardValue). TakesLinkBack link o new) before t in
    let next : without link.number (lent (length back) (left + 1) ++ out) ≡ lent (length (back ++ link ∷ [])) left ++ out =
    ap (λ (k : ℕ). without k (lent (length back) (left + 1) ++ out)) is ∙ takes_least (length back) left out ∙ ap (λ (k : ℕ). lent k left ++ out) (sym more) in
    told.lent (subst (λ (k : ℕ). Contains (lent (length back) (left + 1) ++ out) k) (sym is) (is_out (length back) left out))
    ∙ ap (λ (l : List ℕ). Some (record yard { links_out = l; links_back = (yard.links_back ++ back) ++ link ∷ [] })) next
    ∙ ap (λ (l : List ReturnedLink). Some (record yard { links_out = lent (length (back ++ link ∷ [])) left ++ out; links_back = l })) (append_assoc yard.links_back back (link ∷ []))

pub return_link : {K : Type 0} (shows : K → LinkShows) (old now new : Option YardValue) (all left rest : List K) (number : ℕ) (k : K) → ReturnLinks shows old now all left number → left ≡ rest ++ k ∷ []
    → TakesLinkBack (record { number = number; shows = (shows k).shows; written = (shows k).written; faults = (shows k).faults }) now new → ReturnLinks shows old new all rest (number + 1)
return_link {K} shows old now new all left rest number k r e t =
    let turned : reverse left ≡ k ∷ reverse rest = ap (λ (l : List K). reverse l) e ∙ reverse-append rest (k ∷ []) in
    let long : length left ≡ length rest + 1 = ap (λ (l : List K). length l) e ∙ length-append rest (k ∷ []) in
    let here : number ≡ length (numbered_links shows 0 r.given) = r.count ∙ sym (length-numbered_links shows 0 r.given) in
    let place : 0 + length r.given ≡ number = omega (arith, r.count) in
    let pushed : numbered_links shows 0 r.given ++ record { number = number; shows = (shows k).shows; written = (shows k).written; faults = (shows k).faults } ∷ [] ≡ numbered_links shows 0 (r.given ++ k ∷ []) =
    sym (numbered_links_more shows 0 r.given k ∙ ap (λ (n : ℕ). numbered_links shows 0 r.given ++ record { number = n; shows = (shows k).shows; written = (shows k).written; faults = (shows k).faults } ∷ []) place) in
    record {
      given = r.given ++ k ∷ [];
      all_are = r.all_are ∙ ap (λ (l : List K). r.given ++ l) turned ∙ sym (append_assoc r.given (k ∷ []) (reverse rest));
      count = omega (arith, r.count, length-append r.given (k ∷ []));
      back = subst (λ (l : List ReturnedLink). LinksComeBack old new l (length rest)) pushed
          (links_back_more old now new (numbered_links shows 0 r.given) (length rest) (record { number = number; shows = (shows k).shows; written = (shows k).written; faults = (shows k).faults })
          (subst (λ (n : ℕ). LinksComeBack old now (numbered_links shows 0 r.given) n) long r.back) here t);
    }

-- ports first, then links
pub all_come_back : (old mid new : Option YardValue) (back : List Returned) (links_back : List ReturnedLink) → PortsComeBack old mid back 0 → LinksComeBack mid new links_back 0 → AllComeBack old new back links_back
all_come_back None mid new back links_back e l = subst (λ (o : Option YardValue). LinksComeBack o new links_back 0) e l
all_come_back (Some yard) mid new back links_back p l = λ out links_out is links_are.
    let n : length back ≡ length back + 0 = omega arith in
    let m : length links_back ≡ length links_back + 0 = omega arith in
    let was = p out (is ∙ ap (λ (k : ℕ). lent 0 k ++ out) n) in
    subst (λ (o : Option YardValue). LinksComeBack o new links_back 0) was l links_out (links_are ∙ ap (λ (k : ℕ). lent 0 k ++ links_out) m)

-- what was handed out came back
pub come_back : (old now new : Option YardValue) (calls count : ℕ) (ports back : List Returned) (links links_back : List ReturnedLink) → Lends old now calls count ports links
    → length back ≡ length ports → length links_back ≡ length links → AllComeBack now new back links_back → ComeBack old new calls count ports back links links_back
come_back None now new calls count ports back links links_back e n m a = subst (λ (o : Option YardValue). AllComeBack o new back links_back) e a
come_back (Some yard) now new calls count ports back links links_back (h, e) n m a =
    (h, subst (λ (o : Option YardValue). AllComeBack o new back links_back) e a yard.out yard.links_out (ap (λ (k : ℕ). lent 0 k ++ yard.out) (sym n)) (ap (λ (k : ℕ). lent 0 k ++ yard.links_out) (sym m)))

-- what was handed out before a refusal came back as it was
pub refused_back : (at : Listening) (old now new : Option YardValue) (calls before : ℕ) (ports : List Returned) (links : List ReturnedLink) → LendsButRefuses at old now calls before ports links
    → AllComeBack now new ports links → RefusesWhereTold at old new calls before ports links
refused_back at None now new calls before ports links e a = subst (λ (o : Option YardValue). AllComeBack o new ports links) e a
refused_back at (Some yard) now new calls before ports links (why, l) a = (why, come_back (Some yard) now new calls before ports ports links links l refl refl a)
