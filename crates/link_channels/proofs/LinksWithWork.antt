-- A service of the links acts, or meets a fault, exactly if one of them
-- has work, for `Links::serve_all` and the law `services_act_on_work`.
use Rattle.std.proofs.Common.{◌≡◌, ℕ, ◌==◌, Bool, true, false, not, ◌&&◌, ◌||◌, List, Option, Some, None, is_some}
use Rattle.std.proofs.Common.{Result, Ok, Err, if◌then◌else◌, refl, arith, rules, ◌∙◌, ap}
use Rattle.node_memory.specs.declared.fault.Fault.{Fault}
use Rattle.node_memory.specs.Bytes.{word_at}
use Rattle.node_memory.specs.Effect.{Effect, Gave, Halted, ◌>>=◌, tried, perform, beside, effect_with}
use Rattle.process_queue.specs.declared.queue.Queue.{Queue}
use Rattle.link_channels.specs.declared.link.Link.{Link}
use Rattle.link_channels.specs.declared.link.FourLinks.{FourLinks}
use Rattle.link_channels.specs.declared.number.LinkNumber.{LinkNumber}
use Rattle.link_channels.specs.declared.number.LinkNumber.TheVariants.{Zero, One, Two, Three}
use Rattle.link_channels.specs.Links.{has_work, any_has_work, within}
use Rattle.link_channels.specs.Service.{marked_acted, input_byte, output_byte, arrival, wakes, woken}
use Rattle.link_channels.specs.Service.{serve_link, serve, serve_all, does_something, has_acted}
use Rattle.link_channels.specs.Waiting.{state_address}

-- where no link has work nothing is done
pub quiet-link : (i output : ℕ) (l : Link) (q : Queue) (m : List ℕ) → has_work l ≡ false
    → serve_link i output l q m ≡ Gave (false, q) l m
unfolding serve_link
quiet-link i output l q m same = grind (arith, rules)

neither : (flag other_flag third_flag fourth_flag : Bool) → (flag || other_flag || third_flag || fourth_flag) ≡ false
    → (flag ≡ false) × ((other_flag ≡ false) × ((third_flag ≡ false) × (fourth_flag ≡ false)))
neither false false false false same = (refl, (refl, (refl, refl)))
neither false false false true same = cc
neither false false true _ same = cc
neither false true _ _ same = cc
neither true _ _ _ same = cc

-- if no link has work, a service leaves the links, the queue and memory, and says that it did nothing
pub quiet-links : (ls : FourLinks) (q : Queue) (m : List ℕ) → any_has_work ls ≡ false
    → serve_all ls q m ≡ Gave (false, q) ls m
unfolding serve_all
quiet-links ls q m same =
    let idle = neither (has_work ls.zero) (has_work ls.one) (has_work ls.two) (has_work ls.three) same in
    rw (
      quiet-link _ _ ls.zero q m idle.0,
      quiet-link _ _ ls.one q m idle.1.0,
      quiet-link _ _ ls.two q m idle.1.1.0,
      quiet-link _ _ ls.three q m idle.1.1.1,
    )
    refl

-- what comes after keeps that something was done
does_something-acted : (r : Effect (Unit {0} × Queue) Link) → does_something (marked_acted r) ≡ true
does_something-acted (Gave x l m) = refl
does_something-acted (Halted fault l m) = refl

-- what goes on with an answer and what it left
abbrev Stage : Type 0 → Type 0
Stage L = (Bool × Queue) × L × List ℕ → Effect (Bool × Queue) L

does_something-then : {L : Type 0} → (effect : Effect (Bool × Queue) L) (stage : Stage L)
    → does_something effect ≡ true → ((q : Queue) (l : L) (m : List ℕ)
    → does_something (stage ((true, q), l, m)) ≡ true)
    → does_something (perform effect stage) ≡ true
does_something-then (Gave (true, q) l m) stage same given = given q l m
does_something-then (Gave (false, q) l m) stage same given = cc
does_something-then (Halted fault l m) stage same given = refl

then-does_something : {L : Type 0} → (effect : Effect (Bool × Queue) L) (stage : Stage L)
    → ((x : Bool × Queue) (l : L) (m : List ℕ) → does_something (stage (x, l, m)) ≡ true)
    → does_something (perform effect stage) ≡ true
then-does_something (Gave x l m) stage given = given x l m
then-does_something (Halted fault l m) stage given = refl

does_something-within : (n : LinkNumber) (ls : FourLinks) (effect : Effect (Bool × Queue) Link)
    → does_something (within n ls effect) ≡ does_something effect
does_something-within n ls (Gave x l m) = refl
does_something-within n ls (Halted fault l m) = refl

does_something-beside : (effect : Effect (Unit {0}) Queue) (l : Link)
    (make : Unit {0} × Queue × List ℕ → Effect (Bool × Queue) Link)
    → ((q : Queue) (n : List ℕ) → does_something (make (tt, q, n)) ≡ true)
    → does_something (beside l effect make) ≡ true
does_something-beside (Gave _ q n) l make given = given q n
does_something-beside (Halted fault q n) l make given = refl

does_something-tried : {B : Type 0}
    → (outcome : Result B Fault) (l : Link) (m : List ℕ) (make : B → Effect (Bool × Queue) Link)
    → ((x : B) → does_something (make x) ≡ true)
    → does_something (tried outcome l m make) ≡ true
does_something-tried (Ok x) l m make given = given x
does_something-tried (Err fault) l m make given = refl

does_something-if : (b : Bool) (effect other_effect : Effect (Bool × Queue) Link)
    → does_something effect ≡ true → does_something other_effect ≡ true
    → does_something (if b then effect else other_effect) ≡ true
does_something-if true effect other_effect same equal = same
does_something-if false effect other_effect same equal = equal

does_something-output : (other_output : ℕ) (l : Link) (q : Queue) (m : List ℕ) → l.end.output.acknowledged ≡ true
    → does_something (output_byte other_output l q m) ≡ true
does_something-output other_output l q m same = rw same
    (search (rules, does_something-acted, does_something-tried, does_something-if))

does_something-input : (i : ℕ) (l : Link) (q : Queue) (m : List ℕ)
    → (is_some l.end.input.buffer && not (l.input_count == 0)) ≡ true
    → does_something (input_byte i l q m) ≡ true
does_something-input i l q m same = grind (arith, rules, does_something-acted, does_something-tried, does_something-if)

does_something-woken : (state v : ℕ) (l : Link) (q : Queue) (m : List ℕ) → does_something (woken state v l q m) ≡ true
does_something-woken state v l q m = search (rules, does_something-tried, does_something-beside, does_something-if)

does_something-wakes : (other : Option ℕ) (l : Link) (q : Queue) (m : List ℕ)
    → does_something (wakes other l q m) ≡ true
does_something-wakes None l q m = refl
does_something-wakes (Some v) l q m =
    does_something-tried (word_at m (state_address v)) l m (λ state. woken state v l q m)
    (λ state. does_something-woken state v l q m)

does_something-arrival : (i : ℕ) (l : Link) (q : Queue) (m : List ℕ) → (l.watched && is_some l.end.input.buffer) ≡ true
    → does_something (arrival i l q m) ≡ true
does_something-arrival i l q m same = grind (arith, rules, does_something-tried, does_something-wakes)

-- of three or four stages the first acts
first-of-three : {L : Type 0} → (effect : Effect (Bool × Queue) L)
    (make other_make : Bool × Queue → L → List ℕ → Effect (Bool × Queue) L)
    → does_something effect ≡ true
    → does_something (do
      (x, l, m) ← perform effect
      (y, l, m) ← perform (make x l m)
      (z, l, m) ← perform (other_make y l m)
      Gave (x.0 || y.0 || z.0, z.1) l m)
    ≡ true
first-of-three effect make other_make same =
    does_something-then effect _ same
    (λ q l m. then-does_something (make (true, q) l m) _
    (λ y l m. then-does_something (other_make y l m) _ (λ z l m. refl)))

first-of-two : {L : Type 0} → (effect : Effect (Bool × Queue) L)
    (make : Bool × Queue → L → List ℕ → Effect (Bool × Queue) L)
    → does_something effect ≡ true
    → does_something (do
      (y, l, m) ← perform effect
      (z, l, m) ← perform (make y l m)
      Gave (y.0 || z.0, z.1) l m)
    ≡ true
first-of-two effect make same = does_something-then effect _ same
    (λ q l m. then-does_something (make (true, q) l m) _ (λ z l m. refl))

first-of-one : {L : Type 0} → (effect : Effect (Bool × Queue) L) → does_something effect ≡ true
    → does_something (do (z, l, m) ← perform effect; Gave (z.0, z.1) l m) ≡ true
first-of-one effect same = does_something-then effect _ same (λ q l m. refl)

first-of-four : {L : Type 0} → (effect : Effect (Bool × Queue) L)
    (make other_make third_make : Bool × Queue → L → List ℕ → Effect (Bool × Queue) L)
    → does_something effect ≡ true
    → does_something (do
      (x, l, m) ← perform effect
      (y, l, m) ← perform (make x l m)
      (z, l, m) ← perform (other_make y l m)
      (w, l, m) ← perform (third_make z l m)
      Gave (x.0 || y.0 || z.0 || w.0, w.1) l m)
    ≡ true
first-of-four effect make other_make third_make same =
    does_something-then effect _ same
    (λ q l m. then-does_something (make (true, q) l m) _
    (λ y l m. then-does_something (other_make y l m) _
    (λ z l m. then-does_something (third_make z l m) _ (λ w l m. refl))))

idle-input : (i : ℕ) (l : Link) (q : Queue) (m : List ℕ)
    → (is_some l.end.input.buffer && not (l.input_count == 0)) ≡ false
    → input_byte i l q m ≡ Gave (false, q) l m
idle-input i l q m same = grind (arith, rules)

idle-output : (other_output : ℕ) (l : Link) (q : Queue) (m : List ℕ) → l.end.output.acknowledged ≡ false
    → output_byte other_output l q m ≡ Gave (false, q) l m
idle-output other_output l q m same = rw same refl

watched-of : (flag other_flag third_flag fourth_flag : Bool) → (flag || (other_flag && (third_flag || fourth_flag)))
    ≡ true → flag ≡ false → (other_flag && fourth_flag) ≡ false → (third_flag && other_flag) ≡ true
watched-of flag other_flag third_flag fourth_flag same equal agrees = grind rules

work-by : (i other_output : ℕ) (l : Link) (q : Queue) (m : List ℕ) (input ack : Bool)
    → (is_some l.end.input.buffer && not (l.input_count == 0)) ≡ input → l.end.output.acknowledged ≡ ack
    → has_work l ≡ true
    → does_something (serve_link i other_output l q m) ≡ true
unfolding serve_link
work-by i other_output l q m true ack same equal agrees =
    first-of-three (input_byte i l q m) (λ x l m. output_byte other_output l x.1 m) (λ y l m. arrival i l y.1 m)
    (does_something-input i l q m same)
work-by i other_output l q m false true same equal agrees =
    rw (idle-input i l q m same)
    (first-of-two (output_byte other_output l q m) (λ y l m. arrival i l y.1 m)
    (does_something-output other_output l q m equal))
work-by i other_output l q m false false same equal agrees =
    rw (idle-input i l q m same, idle-output other_output l q m equal)
    (first-of-one (arrival i l q m)
    (does_something-arrival i l q m
    (watched-of l.end.output.acknowledged (is_some l.end.input.buffer) l.watched (not (l.input_count == 0))
    agrees equal same)))

work-link : (i output : ℕ) (l : Link) (q : Queue) (m : List ℕ) → has_work l ≡ true
    → does_something (serve_link i output l q m) ≡ true
work-link i output l q m same = work-by i output l q m _ _ refl refl same

work-four : (ls : FourLinks) (q : Queue) (m : List ℕ) (flag other_flag third_flag fourth_flag : Bool)
    → has_work ls.zero ≡ flag → has_work ls.one ≡ other_flag → has_work ls.two ≡ third_flag
    → has_work ls.three ≡ fourth_flag
    → (flag || other_flag || third_flag || fourth_flag) ≡ true
    → does_something (serve_all ls q m) ≡ true
unfolding serve_all
work-four ls q m true other_flag third_flag fourth_flag same equal agrees alike matches =
    first-of-four (serve Zero ls q m) (λ x ls m. serve One ls x.1 m) (λ y ls m. serve Two ls y.1 m)
    (λ z ls m. serve Three ls z.1 m)
    (does_something-within Zero ls (serve_link 0x80000010 0x80000000 ls.zero q m)
    ∙ work-link 0x80000010 0x80000000 ls.zero q m same)
work-four ls q m false true third_flag fourth_flag same equal agrees alike matches =
    rw (quiet-link 0x80000010 0x80000000 ls.zero q m same)
    (first-of-three (serve One ls q m) (λ y ls m. serve Two ls y.1 m) (λ z ls m. serve Three ls z.1 m)
    (does_something-within One ls (serve_link 0x80000014 0x80000004 ls.one q m)
    ∙ work-link 0x80000014 0x80000004 ls.one q m equal))
work-four ls q m false false true fourth_flag same equal agrees alike matches =
    rw (quiet-link 0x80000010 0x80000000 ls.zero q m same, quiet-link 0x80000014 0x80000004 ls.one q m equal)
    (first-of-two (serve Two ls q m) (λ z ls m. serve Three ls z.1 m)
    (does_something-within Two ls (serve_link 0x80000018 0x80000008 ls.two q m)
    ∙ work-link 0x80000018 0x80000008 ls.two q m agrees))
work-four ls q m false false false true same equal agrees alike matches =
    rw (
      quiet-link 0x80000010 0x80000000 ls.zero q m same,
      quiet-link 0x80000014 0x80000004 ls.one q m equal,
      quiet-link 0x80000018 0x80000008 ls.two q m agrees,
    )
    (first-of-one (serve Three ls q m)
    (does_something-within Three ls (serve_link 0x8000001C 0x8000000C ls.three q m)
    ∙ work-link 0x8000001C 0x8000000C ls.three q m alike))
work-four ls q m false false false false same equal agrees alike matches = cc

does_something-by : (ls : FourLinks) (q : Queue) (m : List ℕ) (work : Bool) → any_has_work ls ≡ work
    → does_something (serve_all ls q m) ≡ work
does_something-by ls q m true same = work-four ls q m _ _ _ _ refl refl refl refl same
does_something-by ls q m false same = rw (quiet-links ls q m same) refl

-- a service does something exactly if one of the links has work
pub does_something-serve_all : (ls : FourLinks) (q : Queue) (m : List ℕ)
    → does_something (serve_all ls q m) ≡ any_has_work ls
does_something-serve_all ls q m = does_something-by ls q m _ refl

-- what the code answers, that it acted or met a fault, is whether one of the links had work
pub has_acted-serve_all : (outcome : Result Bool Fault) (before after now : FourLinks) (q queue : Queue) (m n : List ℕ)
    → before ≡ now → effect_with outcome queue after n ≡ serve_all before q m
    → has_acted outcome ≡ any_has_work now
has_acted-serve_all (Ok marked_acted) before after now q queue m n same equal =
    ap does_something equal ∙ (does_something-serve_all before q m ∙ ap any_has_work same)
has_acted-serve_all (Err fault) before after now q queue m n same equal =
    ap does_something equal ∙ (does_something-serve_all before q m ∙ ap any_has_work same)
