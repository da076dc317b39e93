-- A step of a stock or an account writes its head and one line at most.
use Rattle.std.proofs.Common.{◌≡◌, ℕ, ℤ, List, [], ◌∷◌, true, false, filter, cond, arith, refl, sym, ap, ap₂, subst}
use Rattle.std.proofs.Common.{◌∙◌, Option, Some, None, Bool, true≢false}
use Rattle.std.specs.Prelude.{find, option_map, is_some}
use Rattle.std.specs.Option.{option_and_then}
use Rattle.std.specs.List.{AllByRecursion}
use Rattle.std.proofs.lemmas.Option.{same_Some}
use Rattle.sqlite.specs.declared.types.Value.TheVariants.{Int}
use Rattle.sqlite_value.specs.Order.{Row, column, bytes}
use Rattle.sqlite_trees.specs.Tree.{Trees}
use Rattle.sqlite_catalog.specs.Listing.{IsSound}
use Rattle.sqlite.specs.Effect.{IsDatabase}
use Rattle.sqlite.specs.State.{State}
use Rattle.base.specs.Entity.{Entity}
use Rattle.base.specs.Order.{same_entity}
use Rattle.base.specs.declared.entity.Kind.{Kind}
use Rattle.base.specs.declared.entity.Kind.TheVariants.{Order}
use Rattle.trade.specs.Following.{LinesFollow, put_line, without}
use Rattle.trade.specs.Lines.{Line, line_of, with_line}
use Rattle.trade.specs.Sound.{AreLinesSound}
use Rattle.trade.specs.declared.line_phase.LinePhase.{LinePhase}
use Rattle.trade.proofs.LineLists.{lines_sound-none, lines_sound-with}
use Rattle.keep.specs.Tables.{changed_by}
use Rattle.keep.specs.declared.change.Change.TheVariants.{State as StateChange}
use Rattle.sql_bodies.specs.LineRows.{line_from, lines_with, IsRow}
use Rattle.sql_bodies.proofs.LineRows.{of_order}
use Rattle.sql_bodies.specs.Steps.{steps}
use Rattle.sql_rows.specs.Tables.{Cells, Edits, Puts, has_key, pair_key, text_key}
use Rattle.keep_sqlite.specs.Filing.{Filing}
use Rattle.keep_sqlite.specs.Holders.{Holders, line_cells, line_in, lines_in, sender_line, state_in}
use Rattle.keep_sqlite.specs.Ready.{IsFiled, Makes}
use Rattle.keep_sqlite.specs.Tables.{number_in}
use Rattle.keep_sqlite.proofs.Holders.{AreHeld, made, of_key, sets_row}
use Rattle.keep_sqlite.proofs.Keys.{one_key}
use Rattle.keep_sqlite.proofs.Lookup.{set_here, set_apart}
use Rattle.keep_sqlite.proofs.OwnTables.{heads_stay, lines_stay, own_first, own_then}
use Rattle.keep_sqlite.proofs.Passing.{passing_set_apart}
use Rattle.keep_sqlite.proofs.StepLines.{rows_sound}
use Rattle.keep_sqlite.proofs.StepRows.{lines_put, of_pair}

-- ---- the lines of a state that follows

-- with one of its sender, that line stands in place of the sender's before
follows_some : (sender : Option Entity) (old new : List Line) (l : Line) → AreLinesSound old
    → LinesFollow sender old new → sender_line sender new ≡ Some l → new ≡ with_line l (without l.order old)
follows_some None old new l sound follows is = absurd cc
follows_some (Some o) old new l sound follows is = follows sound ∙ ap (λ (x : Option Line). put_line x old) is

-- with none, they are those before
follows_none : (sender : Option Entity) (old new : List Line) → AreLinesSound old → LinesFollow sender old new
    → sender_line sender new ≡ None → new ≡ old
follows_none None old new sound follows is = follows
follows_none (Some o) old new sound follows is = follows sound ∙ ap (λ (x : Option Line). put_line x old) is

-- the sender's line is one of an order
order_of_line : (o : Entity) (ls : List Line) (l : Line) → AllByRecursion (λ (k : Line). k.order.kind ≡ Order) ls
    → line_of o ls ≡ Some l → l.order.kind ≡ Order
order_of_line o [] l all is = absurd cc
order_of_line o (k ∷ ks) l all is = by_case (same_entity o k.order) is (λ e. order_of_line o ks l all.1 e)
  where
    by_case : (t : Bool) → cond t (Some k) (line_of o ks) ≡ Some l
        → (line_of o ks ≡ Some l → l.order.kind ≡ Order) → l.order.kind ≡ Order
    by_case true e rest = ap (λ (line : Line). line.order.kind) (sym (same_Some _ l e)) ∙ all.0
    by_case false e rest = rest e

order_of_sender : (sender : Option Entity) (ls : List Line) (l : Line) → AreLinesSound ls
    → sender_line sender ls ≡ Some l → l.order.kind ≡ Order
order_of_sender None ls l sound is = absurd cc
order_of_sender (Some o) ls l sound is = order_of_line o ls l sound.of_orders is

some_is : {A : Type 0} (o : Option A) → is_some o ≡ true → (x : A) × (o ≡ Some x)
some_is None is = absurd (true≢false (sym is))
some_is (Some x) is = (x, refl)

-- an entity of a kind and a key
pub is_own : (kind : Kind) (key : List ℕ) (e : Entity) → e.kind ≡ kind → key ≡ e.key
    → e ≡ record { kind = kind; key = key }
is_own kind key e of_kind of_key = λ i. record { kind = of_kind i; key = sym of_key i }

-- ---- what stood

module _ {S C : Type 0} (f : Filing S C) (h : Holders S) (kind : Kind) (word : LinePhase → List ℕ)
    (held : AreHeld f h kind word) (lines_of : S → List Line)
    (has : (r : Row) (ls : List Line) → lines_of (h.state r ls) ≡ ls) (key : List ℕ) where
  abbrev own : Entity
  own = record { kind = kind; key = key }

  abbrev told_by : List Row → Option (List Line)
  told_by lines = lines_in (line_in h.phase_in) (filter (has_key (text_key key)) lines)

  -- the lines of a state that stood are those that the rows tell
  told : (db : Trees) (before : S) → f.entity db own ≡ Some before → told_by (db 11) ≡ Some (lines_of before)
  told db before stood = by_head (find (has_key (text_key key)) (db 9))
      (ap (λ is. cond is (of_key f h kind word held key (db 9) (db 11)) None) (sym held.is)
      ∙ ap (λ (rows : Entity → Option S). rows own) (sym (held.tells db)) ∙ stood)
    where
      by_lines : (head : Row) (ls : Option (List Line)) → option_map (h.state head) ls ≡ Some before
          → ls ≡ Some (lines_of before)
      by_lines head None e = absurd cc
      by_lines head (Some ls) e = ap Some (sym (has head ls) ∙ ap lines_of (same_Some _ before e))

      by_head : (head : Option Row)
          → state_in h.state (line_in h.phase_in) head (filter (has_key (text_key key)) (db 11)) ≡ Some before
          → told_by (db 11) ≡ Some (lines_of before)
      by_head None e = absurd cc
      by_head (Some head) e = by_lines head (told_by (db 11)) e

  told_sound : (rows : List Row) (ls : List Line) → told_by rows ≡ Some ls → AreLinesSound ls
  told_sound rows ls is = rows_sound (line_in h.phase_in) (λ r l e. of_order (h.phase_in (bytes (column r 4)))
      (bytes (column r 2)) (number_in (column r 3)) l e) (filter (has_key (text_key key)) rows) [] ls lines_sound-none is

  -- what is written of a line is read as it
  one_back : (l : Line) → l.order.kind ≡ Order → IsRow l
      → line_from (h.phase_in (word l.phase)) l.order.key l.n ≡ Some l
  one_back l kind_is row = by_line (line_from (h.phase_in (word l.phase)) l.order.key l.n)
      (held.back (l ∷ []) (lines_sound-with l [] kind_is refl lines_sound-none) (row, tt))
    where
      by_line : (x : Option Line)
          → option_and_then (steps (λ (k : Line). lines_with (line_from (h.phase_in (word k.phase)) k.order.key k.n)) [])
          (lines_with x []) ≡ Some (l ∷ []) → x ≡ Some l
      by_line None e = absurd cc
      by_line (Some k) e = let same : k ∷ [] ≡ l ∷ [] = same_Some _ _ e in let first : k ≡ l = cc in ap Some first

  -- ---- what is written

  module _ (cells : Cells) (s : S) (is : (id : ℤ) → h.state (Int id ∷ cells) (lines_of s) ≡ s) (count : ℕ) (old : State)
      (filed : IsFiled f.schema count old.now) (sound : IsDatabase old.now) (sender : Option Entity)
      (stands : is_some (f.entity old.now.trees own) ≡ true)
      (follows : (before : S) → f.entity old.now.trees own ≡ Some before
      → LinesFollow sender (lines_of before) (lines_of s)) where
    abbrev a : Trees
    a = old.now.trees

    -- its head alone
    pub steps_head : (new : State) → sender_line sender (lines_of s) ≡ None
        → Edits 9 (Puts (text_key key) cells) old new → Makes f (changed_by (StateChange own (Some s))) count old new
    steps_head new none first =
        let d = new.now.trees in
        let before = some_is (f.entity a own) stands in
        let lines_before = told a before.0 before.1 in
        let same : lines_of s ≡ lines_of before.0 =
        follows_none sender (lines_of before.0) (lines_of s) (told_sound (a 11) (lines_of before.0) lines_before)
        (follows before.0 before.1) none in
        let all = own_first f count 9 _ old new (omega arith) filed first in
        let lines : d 11 ≡ a 11 = lines_stay held.apart _ old new filed.is first in
        let unique = held.one_head a (subst (λ t. IsSound t a) filed.is sound) filed.rising in
        let still = held.one_head d (subst (λ t. IsSound t d) all.filed.is all.sound) all.filed.rising in
        let put = first.rows in
        let row : Row = Int put.0 ∷ cells in
        made f h kind word held key count (Some s) old new all
        (sets_row f h kind word held key (Some s) (a 9) (a 11) (d 9) (d 11)
        (ap₂ (state_in h.state (line_in h.phase_in))
        (set_here (has_key (text_key key)) (has_key (text_key key)) (a 9) (d 9) row (still key) put.1 put.1.passes)
        (ap (filter (has_key (text_key key))) lines)
        ∙ ap (option_map (h.state row)) (lines_before ∙ ap Some (sym same)) ∙ ap Some (is put.0))
        (λ k differs. ap₂ (state_in h.state (line_in h.phase_in))
        (set_apart (has_key (text_key k)) (has_key (text_key key)) (a 9) (d 9) row (unique k) put.1
        (λ x u v. differs (one_key x key k u v)))
        (ap (filter (has_key (text_key k))) lines)))

    -- its head, and the line of its sender
    pub steps_line : (head new : State) (l : Line) → sender_line sender (lines_of s) ≡ Some l
        → AreLinesSound (lines_of s) → IsRow l → Edits 9 (Puts (text_key key) cells) old head
        → Edits 11 (Puts (pair_key key l.order.key) (line_cells word key l)) head new
        → Makes f (changed_by (StateChange own (Some s))) count old new
    steps_line head new l some lines_sound is_row first second =
        let b = head.now.trees in let d = new.now.trees in
        let before = some_is (f.entity a own) stands in
        let lines_before = told a before.0 before.1 in
        let kind_is = order_of_sender sender (lines_of s) l lines_sound some in
        let same : lines_of s ≡ with_line l (without l.order (lines_of before.0)) =
        follows_some sender (lines_of before.0) (lines_of s) l (told_sound (a 11) (lines_of before.0) lines_before)
        (follows before.0 before.1) some in
        let half = own_first f count 9 _ old head (omega arith) filed first in
        let rest = own_first f count 11 _ head new (omega arith) half.filed second in
        let lines : b 11 ≡ a 11 = lines_stay held.apart _ old head filed.is first in
        let heads : d 9 ≡ b 9 = heads_stay held.apart _ head new half.filed.is second in
        let put = subst (Puts (text_key key) cells (a 9)) (sym heads) first.rows in
        let set = subst (λ rows. Puts (pair_key key l.order.key) (line_cells word key l) rows (d 11)) lines
        second.rows in
        let is_sound = subst (λ t. IsSound t a) filed.is sound in
        let unique = held.one_head a is_sound filed.rising in
        let still = held.one_head d (subst (λ t. IsSound t d) rest.filed.is rest.sound) rest.filed.rising in
        let old_lines = held.lines_rise a filed.rising in
        let new_lines = held.lines_rise d rest.filed.rising in
        let row : Row = Int put.0 ∷ cells in
        let line_row : Row = Int set.0 ∷ line_cells word key l in
        made f h kind word held key count (Some s) old new (own_then f count old head new half rest)
        (sets_row f h kind word held key (Some s) (a 9) (a 11) (d 9) (d 11)
        (ap (λ found. state_in h.state (line_in h.phase_in) found (filter (has_key (text_key key)) (d 11)))
        (set_here (has_key (text_key key)) (has_key (text_key key)) (a 9) (d 9) row (still key) put.1 put.1.passes)
        ∙ ap (option_map (h.state row))
        (lines_put h.phase_in key l line_row (a 11) (d 11) old_lines.ordered new_lines.ordered
        (held.order_text a is_sound) set.1 (one_back l kind_is is_row) kind_is (lines_of before.0) lines_before
        ∙ ap Some (sym same))
        ∙ ap Some (is put.0))
        (λ k differs. ap₂ (state_in h.state (line_in h.phase_in))
        (set_apart (has_key (text_key k)) (has_key (text_key key)) (a 9) (d 9) row (unique k) put.1
        (λ x u v. differs (one_key x key k u v)))
        (passing_set_apart (has_key (text_key k)) (a 11) (d 11) (has_key (pair_key key l.order.key)) line_row
        old_lines.ordered new_lines.ordered set.1
        (λ x u v. differs (one_key x key k (of_pair key l.order.key x u) v)))))
