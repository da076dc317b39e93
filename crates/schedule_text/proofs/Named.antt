-- Entities that words name.
use Rattle.std.proofs.Common.{◌≡◌, ◌≢◌, ℕ, List, ◌++◌, length, take, drop, true, false, cond, nat_eq, refl, sym, ap}
use Rattle.std.proofs.Common.{◌∙◌, Some, None}
use Rattle.std.specs.List.{starts_with}
use Rattle.std.specs.Option.{option_map}
use Rattle.std.proofs.lemmas.Bool.{false_from_ne_true}
use Rattle.std.proofs.lemmas.List.{take-append-drop}
use Rattle.std.specs.Cmp.Lexicographic.{same_text}
use Rattle.base.specs.declared.entity.Kind.{Kind}
use Rattle.base.specs.declared.entity.Kind.TheVariants.{Order, Stock, Account}
use Rattle.base.specs.Entity.{Entity, prefix_of, text_of, is_key, order_of, stock_of, account_of}
use Rattle.schedule_text.specs.Arguments.{entity_of, named}

entity_at : (kind : Kind) (key : List ℕ)
    → entity_of (prefix_of kind ++ key) ≡ option_map (λ k. record { kind = kind; key = k })
    (cond (is_key key) (Some key) None)
entity_at Order key = refl
entity_at Stock key = refl
entity_at Account key = refl

pub entity_named : (e : Entity) (word : List ℕ) → text_of e ≡ word → is_key e.key ≡ true → entity_of word ≡ Some e
entity_named e word text key = ap entity_of (sym text) ∙ entity_at e.kind e.key
    ∙ ap (λ b. option_map (λ k. record { kind = e.kind; key = k }) (cond b (Some e.key) None)) key

pub entity_without_key : (e : Entity) (word : List ℕ) → text_of e ≡ word → is_key e.key ≡ false → entity_of word ≡ None
entity_without_key e word text key = ap entity_of (sym text) ∙ entity_at e.kind e.key
    ∙ ap (λ b. option_map (λ k. record { kind = e.kind; key = k }) (cond b (Some e.key) None)) key

begins_not : (kind : Kind) (word : List ℕ) → ((e : Entity) → text_of e ≢ word)
    → starts_with nat_eq word (prefix_of kind) ≡ false
begins_not kind word none = false_from_ne_true _ (λ yes.
    let front : prefix_of kind ≡ take (length (prefix_of kind)) word = same_text _ _ (sym yes) in
    none (record { kind = kind; key = drop (length (prefix_of kind)) word })
    (ap (λ p. p ++ drop (length (prefix_of kind)) word) front ∙ take-append-drop (length (prefix_of kind)) word))

pub entity_unnamed : (word : List ℕ) → ((e : Entity) → text_of e ≢ word) → entity_of word ≡ None
entity_unnamed word none =
    let order : starts_with nat_eq word (prefix_of Order) ≡ false = begins_not Order word none in
    let stock : starts_with nat_eq word (prefix_of Stock) ≡ false = begins_not Stock word none in
    let account : starts_with nat_eq word (prefix_of Account) ≡ false = begins_not Account word none in
    ap (λ b. cond b (named order_of (prefix_of Order) word)
    (cond (starts_with nat_eq word (prefix_of Stock)) (named stock_of (prefix_of Stock) word)
    (cond (starts_with nat_eq word (prefix_of Account)) (named account_of (prefix_of Account) word) None))) order
    ∙ ap (λ b. cond b (named stock_of (prefix_of Stock) word)
    (cond (starts_with nat_eq word (prefix_of Account)) (named account_of (prefix_of Account) word) None)) stock
    ∙ ap (λ b. cond b (named account_of (prefix_of Account) word) None) account
