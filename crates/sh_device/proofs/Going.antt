-- A view only goes on, whatever a call does.
use Rattle.std.proofs.Common.{◌≡◌, ℕ, zero, suc, ◌+◌, ◌*◌, ◌/◌, List, [], ◌∷◌, Option, Some, None, refl, sym, subst, ◌∙◌, arith}
use Rattle.std.proofs.lemmas.List.Elements.{Contains-append_left, Contains-append_right}
use Rattle.std.specs.Prelude.{Contains}
use Rattle.sh_cells.specs.declared.word.Side.{Side}
use Rattle.sh_cells.specs.declared.word.Side.TheVariants.{First}
use Rattle.sh_cells.specs.declared.word.Kind.{Kind}
use Rattle.sh_cells.specs.declared.word.Kind.TheVariants.{Zero, Daemon, Handed}
use Rattle.sh_cells.specs.declared.view.Access.{Access}
use Rattle.sh_cells.specs.declared.view.View.{View}
use Rattle.sh_cells.specs.Views.{page_store, with_page_read, with_page_store}
use Rattle.sh_device.specs.Spans.{with_reads, with_found, with_bytes, accesses_on, zeros, accesses, with_copies, Clears, with_shown, with_hidden, Moves, Switches, GoesOn}
use Rattle.sh_device.specs.Calls.{Hands, Reads, Loads, Brings, Stores, Misses, Makes, absents}

pub goes_refl : (v : View) → GoesOn v v
goes_refl v = record { reads = λ r h. h; quota = refl; left = omega arith }

pub goes_trans : (u v w : View) → GoesOn u v → GoesOn v w → GoesOn u w
goes_trans u v w a b = record { reads = λ r h. b.reads r (a.reads r h); quota = b.quota ∙ a.quota; left = omega (arith, a.left, b.left) }

pub goes_to : (u v w : View) → GoesOn u v → w ≡ v → GoesOn u w
goes_to u v w a e = subst (GoesOn u) (sym e) a

pub goes_found : (v : View) (page : ℕ) (os : List (Option Side)) → GoesOn v (with_found v page os)
goes_found v page [] = goes_refl v
goes_found v page (o ∷ os) =
    let u : View = with_page_read v page o in
    goes_trans v u (with_found u (page + 1) os) (record { reads = λ r h. h; quota = refl; left = omega arith }) (goes_found u (page + 1) os)

pub goes_bytes : (v : View) (stamp : ℕ) (kind : Kind) (found : List (Option Side)) (at : ℕ) (bytes : List ℕ) → GoesOn v (with_bytes v stamp kind found at bytes)
goes_bytes v stamp kind found at bytes = record { reads = λ r h. h; quota = refl; left = omega arith }

goes_reads_only : (v : View) (rs : List Access) → GoesOn v (with_reads v rs)
goes_reads_only v rs = record { reads = λ r h. Contains-append_left v.reads rs r h; quota = refl; left = omega arith }

goes_clears : (v w : View) (page : ℕ) (os : List (Option Side)) → Clears v page os w → GoesOn v w
goes_clears v w page [] e = goes_to v v w (goes_refl v) e
goes_clears v w page (Some side ∷ os) e = goes_clears v w (page + 1) os e
goes_clears v w page (None ∷ os) (stamp, e) =
    let u : View = with_bytes v stamp Zero [] (4096 * page) zeros in
    goes_trans v u w (goes_bytes v stamp Zero [] (4096 * page) zeros) (goes_clears u w (page + 1) os e)

goes_shown : (v : View) (page : ℕ) (os : List (Option Side)) → GoesOn v (with_shown v page os)
goes_shown v page [] = goes_refl v
goes_shown v page (Some side ∷ os) = goes_shown v (page + 1) os
goes_shown v page (None ∷ os) =
    let u : View = with_page_store v (page_store page (Some First)) in
    goes_trans v u (with_shown u (page + 1) os) (record { reads = λ r h. h; quota = refl; left = omega arith }) (goes_shown u (page + 1) os)

pub goes_reads : (found : List (Option Side)) (v : View) (at : ℕ) (bytes : List ℕ) (least : ℕ) (w : View) → Reads found v at bytes least w → GoesOn v w
goes_reads found v at bytes least w r =
    let u : View = with_found v (at / 4096) found in
    let rs : List Access = accesses_on found (at / 4096) at r.words in
    goes_to v (with_reads u rs) w (goes_trans v u (with_reads u rs) (goes_found v (at / 4096) found) (goes_reads_only u rs)) r.gained

pub goes_loads : (v : View) (at : ℕ) (bytes : List ℕ) (least : ℕ) (w : View) → Loads v at bytes least w → GoesOn v w
goes_loads v at bytes least w l = goes_reads l.found v at bytes least w l.reads

pub goes_brings : (v : View) (iova : ℕ) (bytes : List ℕ) (w : View) → Brings v iova bytes w → GoesOn v w
goes_brings v iova bytes w b = goes_reads b.found v iova bytes b.least w b.reads

pub goes_stores : (v : View) (at : ℕ) (bytes : List ℕ) (stamp : ℕ) (w : View) → Stores v at bytes stamp w → GoesOn v w
goes_stores v at bytes stamp w s =
    let u : View = with_found v (at / 4096) s.found in
    let x : View = with_bytes u stamp Daemon s.found at bytes in
    goes_to v x w (goes_trans v u x (goes_found v (at / 4096) s.found) (goes_bytes u stamp Daemon s.found at bytes)) s.gained

pub goes_misses : (size : ℕ) (v : View) (at len bus : ℕ) (w : View) → Misses size v at len bus w → GoesOn v w
goes_misses size v at len bus w m = goes_to v (with_found v (at / 4096) m.found) w (goes_found v (at / 4096) m.found) m.gained

pub goes_hands : (v : View) (number iova count : ℕ) (bytes : List ℕ) (stamp : ℕ) (w : View) → Hands v number iova count bytes stamp w → GoesOn v w
goes_hands v number iova count bytes stamp w h =
    let p : ℕ = iova / 4096 in
    let a : View = with_found v p h.found in
    let b : View = h.cleared in
    let c : View = with_bytes b stamp (Handed number) h.found iova bytes in
    goes_to v (with_shown c p h.found) w
    (goes_trans v a (with_shown c p h.found) (goes_found v p h.found) (goes_trans a b (with_shown c p h.found) (goes_clears a b p h.found h.clears)
    (goes_trans b c (with_shown c p h.found) (goes_bytes b stamp (Handed number) h.found iova bytes) (goes_shown c p h.found)))) h.gained

pub goes_makes : (v : View) (page count : ℕ) (w : View) → Makes v page count w → GoesOn v w
goes_makes v page count w m =
    goes_to v (with_shown m.cleared page (absents count)) w
    (goes_trans v m.cleared (with_shown m.cleared page (absents count)) (goes_clears v m.cleared page (absents count) m.clears) (goes_shown m.cleared page (absents count))) m.gained

pub goes_hidden : (v : View) (page n : ℕ) → GoesOn v (with_hidden v page n)
goes_hidden v page zero = goes_refl v
goes_hidden v page (suc n) =
    let u : View = with_page_store v (page_store page None) in
    goes_trans v u (with_hidden u (page + 1) n) (record { reads = λ r h. h; quota = refl; left = omega arith }) (goes_hidden u (page + 1) n)

goes_moves : (v w : View) (page : ℕ) (found : Option Side) (to : Side) → Moves v page found to w → GoesOn v w
goes_moves v w page None to (stamp, is) = goes_to v (with_bytes v stamp Zero (Some to ∷ []) (4096 * page) zeros) w (goes_bytes v stamp Zero (Some to ∷ []) (4096 * page) zeros) is
goes_moves v w page (Some from) to (stamp, words, size, is) =
    let x : View = with_copies v stamp from to page words in
    goes_to v x w (record { reads = λ r h. Contains-append_left v.reads (accesses from (4096 * page) words) r h; quota = refl; left = omega arith }) is

pub goes_switches : (v w : View) (page : ℕ) (sides : List (Option Side)) → Switches v page sides w → GoesOn v w
goes_switches v w page [] is = goes_to v v w (goes_refl v) is
goes_switches v w page (None ∷ sides) s =
    let u : View = with_page_store v (page_store page None) in
    goes_trans v u w (record { reads = λ r h. h; quota = refl; left = omega arith }) (goes_switches u w (page + 1) sides s)
goes_switches v w page (Some to ∷ sides) (found, u, moves, s) =
    let a : View = with_page_read v page found in
    let b : View = with_page_store u (page_store page (Some to)) in
    goes_trans v a w (record { reads = λ r h. h; quota = refl; left = omega arith }) (goes_trans a u w (goes_moves a u page found to moves) (goes_trans u b w (record { reads = λ r h. h; quota = refl; left = omega arith }) (goes_switches b w (page + 1) sides s)))

-- what a load read is among the reads
pub loads_read : (v : View) (at : ℕ) (bytes : List ℕ) (least : ℕ) (w : View) (l : Loads v at bytes least w) (a : Access) → Contains (accesses_on l.found (at / 4096) at l.reads.words) a → Contains w.reads a
loads_read v at bytes least w l a has =
    let u : View = with_found v (at / 4096) l.found in
    subst (λ (x : View). Contains x.reads a) (sym l.reads.gained) (Contains-append_right u.reads (accesses_on l.found (at / 4096) at l.reads.words) a has)
