-- Each step of a seat keeps the rule of the switch table, as `atomic_table` wants it for `SwitchTable::open`,
-- `take_first_domain`, `survey` and the loads and stores of a row.
use Rattle.std.proofs.Common.{◌≡◌, ◌≢◌, ◌⊎◌, ℕ, zero, suc, ◌<◌, List, [], ◌∷◌, ◌++◌, length, set, take, drop, replicate}
use Rattle.std.proofs.Common.{Some, slice_get, slice_index, Contains, refl, sym, ap, ◌∙◌, subst, inl, inr, ⊎_elim}
use Rattle.std.proofs.Common.{arith, length-set, get_or-set_same, get_or-set_other}
use Rattle.std.proofs.lemmas.List.{set-get_or}
use Rattle.std.proofs.Math.Decide.{ℕ_discrete}
use mathlib.Core.Logic.{dite}
use mathlib.Core.Option.{some, none, some-injective, some-ne-none}
use lib.ListN.{get_elem?}
use Rattle.atomic_table.specs.Table.{State, Me, step, keeps, Allows, Splits, opening}
use Rattle.atomic_table.proofs.Lists.{at_set, set_again}
use Rattle.crossbar.specs.declared.word.Word.{Word}
use Rattle.crossbar.specs.Row.{IsWordOf}
use Rattle.crossbar.specs.Word.{IsAtLeastAsNew, changes_of}
use Rattle.switch_table.specs.declared.view.View.{View}
use Rattle.switch_table.specs.Domains.{AreDisjoint}
use Rattle.switch_table.specs.Rule.{word_of, IsNewer, IsConfined, StoresAlone, Knows, IsRuled, opening_view}
use Rattle.switch_table.specs.Rule.{with_view_word, Read, Written, Surveyed}

newer_same : (x : ℕ) → IsNewer x x
newer_same x = inr (inl refl)

newer_words : (word other_word third_word : Word) → IsAtLeastAsNew word other_word
    → IsAtLeastAsNew other_word third_word → IsAtLeastAsNew word third_word
newer_words word other_word third_word (inl a) (inl b) = inl (omega arith)
newer_words word other_word third_word (inl a) (inr (inl e)) = subst (IsAtLeastAsNew word) e (inl a)
newer_words word other_word third_word (inl a) (inr (inr b)) = let e = b.0 in let f = b.1 in inl (omega arith)
newer_words word other_word third_word (inr (inl e)) given =
    subst (λ (w : Word). IsAtLeastAsNew w third_word) (sym e) given
newer_words word other_word third_word (inr (inr a)) (inl b) = let e = a.0 in let f = a.1 in inl (omega arith)
newer_words word other_word third_word (inr (inr a)) (inr (inl e)) = inr (inr (a.0, ap changes_of (sym e) ∙ a.1))
newer_words word other_word third_word (inr (inr a)) (inr (inr b)) = inr (inr (a.0, b.1))

-- a word that is newer than one which is newer than a third is newer than the third
pub newer_trans : (x number other_number : ℕ) → IsNewer x number → IsNewer number other_number → IsNewer x other_number
newer_trans x number other_number given holds = newer_words (word_of x) (word_of number)
    (word_of other_number) given holds

-- a word that is replaced by a newer one
set_newer : (words : List ℕ) (i n k : ℕ) → IsNewer n (slice_index words i) → i < length words
    → IsNewer (slice_index (set words i n) k) (slice_index words k)
set_newer words i n k newer inside = dite (ℕ_discrete k i)
    (λ e.
    subst (λ (j : ℕ). IsNewer (slice_index (set words i n) j) (slice_index words j)) (sym e)
    (subst (λ (w : ℕ). IsNewer w (slice_index words i)) (sym (get_or-set_same words i n 0 inside)) newer))
    (λ other.
    subst (λ (w : ℕ). IsNewer w (slice_index words k)) (sym (get_or-set_other words i k n 0 other)) (newer_same _))

-- two lists that get the same word at one place
set_both : (P : ℕ → ℕ → Type 0) (xs ys : List ℕ) (i n k : ℕ)
    → i < length xs → i < length ys → P n n → (k ≢ i → P (slice_index xs k) (slice_index ys k))
    → P (slice_index (set xs i n) k) (slice_index (set ys i n) k)
set_both P xs ys i n k hx hy here else = dite (ℕ_discrete k i)
    (λ e.
    subst (λ (j : ℕ). P (slice_index (set xs i n) j) (slice_index (set ys i n) j)) (sym e)
    (subst (λ (p : ℕ × ℕ). P p.0 p.1) (λ j. (sym (get_or-set_same xs i n 0 hx) j, sym (get_or-set_same ys i n 0 hy) j))
    here))
    (λ other.
    subst (λ (p : ℕ × ℕ). P p.0 p.1)
    (λ j. (sym (get_or-set_other xs i k n 0 other) j, sym (get_or-set_other ys i k n 0 other) j)) (else other))

-- what a view of the later table holds, the view of the same seat held before
held_before : (views : List View) (id seat : ℕ) (v w view : View)
    → get_elem? views id ≡ some v → w.held ≡ v.held → get_elem? (set views id w) seat ≡ some view
    → (was : View) × (get_elem? views seat ≡ some was) × (view.held ≡ was.held)
held_before views id seat v w view at same equal = ⊎_elim
    (λ (t : (seat ≡ id) × (w ≡ view)). (v, ap (get_elem? views) t.0 ∙ at, ap (λ (x : View). x.held) (sym t.1) ∙ same))
    (λ (t : (seat ≢ id) × (get_elem? views seat ≡ some view)). (view, t.1, refl))
    (at_set views id seat w view equal)

held_by : (view was : View) (i : ℕ) → view.held ≡ was.held → StoresAlone view i → StoresAlone was i
held_by view was i same given = (
  given.0,
  given.1,
  subst
      (λ (held : List (List ℕ)). slice_get held given.0 ≡ Some given.1) same given.2,
  given.3,
)

-- a member of the list, or the new one at its end
at_push : (views : List View) (new view : View) (seat : ℕ) → get_elem? (views ++ new ∷ []) seat ≡ some view
    → (get_elem? views seat ≡ some view) ⊎ ((seat ≡ length views) × (new ≡ view))
at_push [] new view zero same = inr (refl, some-injective new view same)
at_push [] new view (suc seat) same = absurd (some-ne-none view (sym same))
at_push (x ∷ xs) new view zero same = inl same
at_push (x ∷ xs) new view (suc seat) same =
    ⊎_elim (λ t. inl t) (λ (t : (seat ≡ length xs) × (new ≡ view)). inr (ap suc t.0, t.1))
    (at_push xs new view seat same)

-- the first domain, and the others
taken : (held : List (List ℕ)) (k : ℕ) (d : List ℕ) → slice_get (take 1 held) k ≡ Some d
    → (k ≡ 0) × (slice_get held 0 ≡ Some d)
taken [] k d same = absurd (cc)
taken (x ∷ xs) zero d same = (refl, same)
taken (x ∷ xs) (suc k) d same = absurd (cc)

left_over : (held : List (List ℕ)) (k : ℕ) (d : List ℕ) → slice_get (drop 1 held) k ≡ Some d
    → slice_get held (suc k) ≡ Some d
left_over [] k d same = absurd (cc)
left_over (x ∷ xs) k d same = same

module _ (domains : List (List ℕ)) where
  -- the seat that sees or stores the word itself
  knows_mine : (words : List ℕ) (v : View) (i n : ℕ) → i < 32 → length words ≡ 32 → Knows domains words v
      → Knows domains (set words i n) (with_view_word v i n)
  knows_mine words v i n low wide given = let wide_view : length v.words ≡ 32 = given.wide in record {
    plan = given.plan;
    wide = length-set v.words i n ∙ given.wide;
    own = given.own;
    separate = given.separate;
    exact =
        λ k mine. set_both (λ x y. x ≡ y) words v.words i n k (omega arith) (omega arith) refl
        (λ _. given.exact k mine);
    fresh = λ k. set_both IsNewer words v.words i n k (omega arith) (omega arith) (newer_same n) (λ _. given.fresh k);
  }

  -- another seat, where the word is replaced by a newer one
  knows_other : (words : List ℕ) (view : View) (i n : ℕ)
      → i < 32 → length words ≡ 32 → ¬ StoresAlone view i → IsNewer n (slice_index words i) → Knows domains words view
      → Knows domains (set words i n) view
  knows_other words view i n low wide other newer given = record {
    plan = given.plan;
    wide = given.wide;
    own = given.own;
    separate = given.separate;
    exact = λ k mine. get_or-set_other words i k n 0 (λ e. other (subst (StoresAlone view) e mine))
        ∙ given.exact k mine;
    fresh = λ k. newer_trans _ _ _ (set_newer words i n k newer (omega arith)) (given.fresh k);
  }

  module _ {S : Type 0} where
    still_apart : (s : State S View) (given : IsRuled domains s) (id : ℕ) (v w : View)
        → get_elem? s.views id ≡ some v → w.held ≡ v.held
        → (one other i : ℕ) (view other_view : View)
        → get_elem? (set s.views id w) one ≡ some view → get_elem? (set s.views id w) other ≡ some other_view
        → StoresAlone view i
        → StoresAlone other_view i → one ≡ other
    still_apart s given id v w at same one other i view other_view ex ey hx hy =
        let before_x = held_before s.views id one v w view at same ex in
        let before_y = held_before s.views id other v w other_view at same ey in
        given.apart one other i before_x.0 before_y.0 before_x.1 before_y.1 (held_by view before_x.0 i before_x.2 hx)
        (held_by other_view before_y.0 i before_y.2 hy)

    -- the seat's word and its view of it become n
    changes : (s : State S View) (given : IsRuled domains s) (id i n : ℕ) (v : View) → get_elem? s.views id ≡ some v
        → i < 32
        → ((seat : ℕ) (u : View) → seat ≢ id → get_elem? s.views seat ≡ some u → Knows domains (set s.words i n) u)
        → IsConfined domains i n
        → IsRuled domains
        record { words = set s.words i n; homes = s.homes; views = set s.views id (with_view_word v i n) }
    changes s given id i n v at low others confined = let wide_words : length s.words ≡ 32 = given.wide in record {
      wide = length-set s.words i n ∙ given.wide;
      separate = given.separate;
      knows = λ seat u e. ⊎_elim
          (λ (t : (seat ≡ id) × (with_view_word v i n ≡ u)).
          subst (Knows domains (set s.words i n)) t.1 (knows_mine s.words v i n low given.wide (given.knows id v at)))
          (λ (t : (seat ≢ id) × (get_elem? s.views seat ≡ some u)). others seat u t.0 t.1)
          (at_set s.views id seat (with_view_word v i n) u e);
      apart = still_apart s given id v (with_view_word v i n) at refl;
      confined = λ k. dite (ℕ_discrete k i)
          (λ e.
          subst (λ (j : ℕ). IsConfined domains j (slice_index (set s.words i n) j)) (sym e)
          (subst (IsConfined domains i) (sym (get_or-set_same s.words i n 0 (omega arith))) confined))
          (λ other. subst (IsConfined domains k) (sym (get_or-set_other s.words i k n 0 other)) (given.confined k));
    }

    -- a load of a word that the seat alone stores finds the view's word, and no view changes
    pub reads : (slots id i : ℕ) (me : Me S View) → StoresAlone me.0 i
        → Allows (IsRuled domains) slots id me i (λ n. n) (Read (step slots i 0 0 none) me)
    reads slots id i me mine s r deep at small = (
      me.0,
      keeps,
      tt,
      subst (λ (p : List ℕ × List View). IsRuled domains record { words = p.0; homes = s.homes; views = p.1 })
          (λ j. (sym (set-get_or s.words i 0) j, sym (set_again s.views id me.0 at) j)) r,
      (refl, (r.knows id me.0 at).exact i mine),
    )

    -- a seat may store a newer word of its domain at an output of its own, which becomes its view's
    pub writes : (slots id i n : ℕ) (me : Me S View)
        → i < 32 → (k : ℕ) (own : List ℕ) → slice_get me.0.held k ≡ Some own → Contains own i → IsWordOf own (word_of n)
        → IsNewer n (slice_index me.0.words i)
        → Allows (IsRuled domains) slots id me i (λ _. n) (λ _. Written (step slots i n 0 none) me n)
    writes slots id i n me low k own held here fits newer s r deep at small =
        let mine : Knows domains s.words me.0 = r.knows id me.0 at in
        let exact : slice_index s.words i ≡ slice_index me.0.words i = mine.exact i (k, own, held, here) in
        let there = mine.own k own held in
        let newer_stored : IsNewer n (slice_index s.words i) = subst (IsNewer n) (sym exact) newer in (
          with_view_word me.0 i n,
          keeps,
          tt,
          changes s r id i n me.0 at low
              (λ seat u other e.
              knows_other s.words u i n low r.wide
              (λ theirs. other (r.apart seat id i u me.0 e at theirs (k, own, held, here))) newer_stored
              (r.knows seat u e)) (
                (λ m d is inside.
                    subst (λ (ports : List ℕ). IsWordOf ports (word_of n))
                    (same_domain m there.0 d own is there.1 (r.separate m there.0 i d own is there.1 inside here))
                    fits),
                (λ none_has. absurd (none_has there.0 own there.1 here)),
              ),
          refl,
        )
      where
        same_domain : (m n : ℕ) (d e : List ℕ) → slice_get domains m ≡ Some d → slice_get domains n ≡ Some e → m ≡ n
            → e ≡ d
        same_domain m n d e is_d is_e same =
            let f : slice_get domains n ≡ Some d = subst (λ (j : ℕ). slice_get domains j ≡ Some d) same is_d in cc

    -- any seat may load any word: it becomes the view's, is at
    -- least as new as the one there, and confined to its domain
    pub surveys : (slots id i : ℕ) (me : Me S View) → i < 32
        → Allows (IsRuled domains) slots id me i (λ n. n) (Surveyed (step slots i 0 0 none) me)
    surveys slots id i me low s r deep at small =
        let mine : Knows domains s.words me.0 = r.knows id me.0 at in
        let found : ℕ = slice_index s.words i in (
          with_view_word me.0 i found,
          keeps,
          tt,
          changes s r id i found me.0 at low
              (λ seat u other e.
              subst (λ (words : List ℕ). Knows domains words u) (sym (set-get_or s.words i 0)) (r.knows seat u e))
              (r.confined i),
          (
            refl,
            mine.fresh i,
            subst (λ (plan : List (List ℕ)). IsConfined plan i found) (sym mine.plan) (r.confined i),
          ),
        )

    -- the domains that a seat holds may be divided between two: the first goes to one, the others to the other
    pub deals : (id : ℕ) (v : View)
        → Splits {S = S} (IsRuled domains) id v (record v { held = drop 1 v.held }) (record v { held = take 1 v.held })
    deals id v s r at =
        let mine : Knows domains s.words v = r.knows id v at in
        let left : View = record v { held = drop 1 v.held } in
        let right : View = record v { held = take 1 v.held } in
        let views : List View = set s.views id left in
        -- what a seat holds afterwards some seat held before: itself, or the opener
        let from_left : (i : ℕ) → StoresAlone left i → StoresAlone v i =
        λ i h. (suc h.0, h.1, left_over v.held h.0 h.1 h.2, h.3) in
        let from_right : (i : ℕ) → StoresAlone right i → StoresAlone v i =
        λ i h. (0, h.1, (taken v.held h.0 h.1 h.2).1, h.3) in
        let never_both : (i : ℕ) → StoresAlone left i → StoresAlone right i → ⊥ = λ i l t.
        let same : suc l.0 ≡ 0 =
        mine.separate (suc l.0) 0 i l.1 t.1 (left_over v.held l.0 l.1 l.2) (taken v.held t.0 t.1 t.2).1 l.3 t.3 in
        absurd (omega arith) in
        let before : (seat i : ℕ) (u : View) → get_elem? views seat ≡ some u → StoresAlone u i
        → (was : View) × (get_elem? s.views seat ≡ some was) × StoresAlone was i =
        λ seat i u e h. ⊎_elim
        (λ (t : (seat ≡ id) × (left ≡ u)).
        (v, ap (get_elem? s.views) t.0 ∙ at, from_left i (subst (λ (x : View). StoresAlone x i) (sym t.1) h)))
        (λ (t : (seat ≢ id) × (get_elem? s.views seat ≡ some u)). (u, t.1, h))
        (at_set s.views id seat left u e) in
        let never_with_right : (seat i : ℕ) (u : View) → get_elem? views seat ≡ some u → StoresAlone u i
        → StoresAlone right i → ⊥ =
        λ seat i u e h t. ⊎_elim
        (λ (c : (seat ≡ id) × (left ≡ u)). never_both i (subst (λ (x : View). StoresAlone x i) (sym c.1) h) t)
        (λ (c : (seat ≢ id) × (get_elem? s.views seat ≡ some u)). c.0 (r.apart seat id i u v c.1 at h (from_right i t)))
        (at_set s.views id seat left u e) in record {
          wide = r.wide;
          separate = r.separate;
          knows = λ seat u e. ⊎_elim
              (λ was. ⊎_elim
              (λ (t : (seat ≡ id) × (left ≡ u)). subst (Knows domains s.words) t.1 record {
                plan = mine.plan;
                wide = mine.wide;
                own = λ k d is. mine.own (suc k) d (left_over v.held k d is);
                separate =
                    λ m n i d f is_d is_f in_d in_f.
                    let same : suc m ≡ suc n =
                    mine.separate (suc m) (suc n) i d f (left_over v.held m d is_d) (left_over v.held n f is_f) in_d
                    in_f in
                    omega arith;
                exact = λ i h. mine.exact i (from_left i h);
                fresh = mine.fresh;
              })
              (λ (t : (seat ≢ id) × (get_elem? s.views seat ≡ some u)). r.knows seat u t.1)
              (at_set s.views id seat left u was))
              (λ (t : (seat ≡ length views) × (right ≡ u)). subst (Knows domains s.words) t.1 record {
                plan = mine.plan;
                wide = mine.wide;
                own = λ k d is. mine.own 0 d (taken v.held k d is).1;
                separate = λ m n i d f is_d is_f in_d in_f. (taken v.held m d is_d).0 ∙ sym (taken v.held n f is_f).0;
                exact = λ i h. mine.exact i (from_right i h);
                fresh = mine.fresh;
              })
              (at_push views right u seat e);
          apart = λ one other i x y ex ey hx hy. ⊎_elim
              (λ old_x. ⊎_elim
              (λ old_y. let b = before one i x old_x hx in
              let c = before other i y old_y hy in
              r.apart one other i b.0 c.0 b.1 c.1 b.2 c.2)
              (λ (t : (other ≡ length views) × (right ≡ y)).
              absurd (never_with_right one i x old_x hx (subst (λ (z : View). StoresAlone z i) (sym t.1) hy)))
              (at_push views right y other ey))
              (λ (t : (one ≡ length views) × (right ≡ x)). ⊎_elim
              (λ old_y.
              absurd (never_with_right other i y old_y hy (subst (λ (z : View). StoresAlone z i) (sym t.1) hx)))
              (λ (c : (other ≡ length views) × (right ≡ y)). t.0 ∙ sym c.0)
              (at_push views right y other ey))
              (at_push views right x one ex);
          confined = r.confined;
        }

    -- the rule holds of a table that has just been made, if the domains share no port
    pub begins : AreDisjoint domains
        → IsRuled {S = S} domains (opening (replicate 32 0) [] (opening_view domains domains))
    begins separate = record {
      wide = refl;
      separate = separate;
      knows = one;
      apart = only;
      confined =
          λ i. (
            (λ n d is inside.
                subst (λ (w : ℕ). IsWordOf d (word_of w)) (sym (zeros 32 i)) (record { proper = refl; within = tt })),
            (λ _. zeros 32 i),
          );
    }
      where
        zeros : (n i : ℕ) → slice_index (replicate n 0) i ≡ 0
        zeros zero i = refl
        zeros (suc n) zero = refl
        zeros (suc n) (suc i) = zeros n i

        one : (seat : ℕ) (v : View) → get_elem? (opening_view domains domains ∷ []) seat ≡ some v
            → Knows domains (replicate 32 0) v
        one zero v e = subst (Knows domains (replicate 32 0)) (some-injective _ _ e) record {
          plan = refl;
          wide = refl;
          own = λ k d is. (k, is);
          separate = separate;
          exact = λ i _. refl;
          fresh = λ i. newer_same _;
        }
        one (suc seat) v e = absurd (some-ne-none v (sym e))

        only : (one other i : ℕ) (v w : View)
            → get_elem? (opening_view domains domains ∷ []) one ≡ some v
            → get_elem? (opening_view domains domains ∷ []) other ≡ some w → StoresAlone v i → StoresAlone w i
            → one ≡ other
        only zero zero i v w e f h h' = refl
        only zero (suc other) i v w e f h h' = absurd (some-ne-none w (sym f))
        only (suc one) other i v w e f h h' = absurd (some-ne-none v (sym e))
