-- Letters sent one after another.
use Rattle.std.proofs.Common.{◌≡◌, ℕ, ◌+◌, List, [], ◌∷◌, ◌++◌, refl, sym, ap, subst, ◌∙◌, append_assoc, arith}
use Rattle.std.specs.List.{AllByRecursion}
use Rattle.std.proofs.lemmas.List.{append-nil}
use Rattle.base.specs.declared.pair.Pair.{Pair}
use Rattle.stomp_frame.specs.Frames.{Content}
use Rattle.stomp_client.specs.Clients.{Client, receipted}
use Rattle.stomp_client.specs.Frames.{IsPlain, with_receipt}
use Rattle.stomp_client.specs.Written.{Wrote, Adds}
use Rattle.envelope.specs.Written.{IsEnvelope, send_of}
use Rattle.envelope.specs.declared.message.Letter.{Letter}
use Rattle.envelope.specs.declared.message.Envelope.TheVariants as envelope
use Rattle.keep.specs.Tables.{set_mark}
use Rattle.relay.specs.Filling.{SendState, with_sent, with_all_sent, sends_of, SendsLetters}

-- a letter's SEND has neither a receipt nor a transaction
pub send_is_plain : (l : Letter) → IsPlain (send_of (envelope.Letter l))
send_is_plain l = record { command = refl; room = omega arith; receipt = refl; transaction = refl }

-- the marks after letters were sent
abbrev pub marked : (Pair → ℕ) → List Letter → Pair → ℕ
marked m [] = m
marked m (l ∷ ls) = marked (set_mark l.pair l.number m) ls

pub marks_after : (c : SendState) (ls : List Letter) → (with_all_sent c ls).marks ≡ marked c.marks ls
marks_after c [] = refl
marks_after c (l ∷ ls) = marks_after (with_sent c l) ls

pub stage_after : (c : SendState) (ls : List Letter) → (with_all_sent c ls).client.stage ≡ c.client.stage
stage_after c [] = refl
stage_after c (l ∷ ls) = stage_after (with_sent c l) ls

sent_append : (c : SendState) (xs ys : List Letter) → with_all_sent c (xs ++ ys) ≡ with_all_sent (with_all_sent c xs) ys
sent_append c [] ys = refl
sent_append c (x ∷ xs) ys = sent_append (with_sent c x) xs ys

frames_append : (c : SendState) (xs ys : List Letter)
    → sends_of c (xs ++ ys) ≡ sends_of c xs ++ sends_of (with_all_sent c xs) ys
frames_append c [] ys = refl
frames_append c (x ∷ xs) ys = ap
    (λ fs. with_receipt (c.client.receipts.last + 1) (send_of (envelope.Letter x)) ∷ fs)
    (frames_append (with_sent c x) xs ys)

-- both of two parts
all_append : {A : Type 0} (P : A → Type 0) (xs ys : List A) → AllByRecursion P xs → AllByRecursion P ys
    → AllByRecursion P (xs ++ ys)
all_append P [] ys a b = b
all_append P (x ∷ xs) ys a b = (a.0, all_append P xs ys a.1 b)

-- none was sent
pub sends_none : (c : SendState) → SendsLetters [] c c
sends_none c = record {
  each = tt;
  all = refl;
  wrote = λ frames gone w. subst (λ (fs : List Content). Wrote fs gone c.client.out) (sym (append-nil frames)) w;
}

-- some were sent, and then others
pub sends_append : (xs ys : List Letter) (a b c : SendState) → SendsLetters xs a b → SendsLetters ys b c
    → SendsLetters (xs ++ ys) a c
sends_append xs ys a b c s t =
    let more : sends_of b ys ≡ sends_of (with_all_sent a xs) ys = ap (λ (x : SendState). sends_of x ys) s.all in
    record {
      each = all_append (λ l. IsEnvelope (envelope.Letter l)) xs ys s.each t.each;
      all = t.all ∙ ap (λ (x : SendState). with_all_sent x ys) s.all ∙ sym (sent_append a xs ys);
      wrote = λ frames gone w.
          subst (λ (fs : List Content). Wrote fs gone c.client.out)
          (append_assoc frames (sends_of a xs) (sends_of b ys)
          ∙ ap (λ (fs : List Content). frames ++ (sends_of a xs ++ fs)) more
          ∙ ap (λ (fs : List Content). frames ++ fs) (sym (frames_append a xs ys)))
          (t.wrote (frames ++ sends_of a xs) gone (s.wrote frames gone w));
    }

-- one was sent
abbrev made : (Pair → ℕ) → Client ℕ → SendState
made marks client = record { marks = marks; client = client }

-- a SEND with the next receipt number, and the mark of its pair, are what it is to send one letter
pub sends_one : (l : Letter) (m m' : Pair → ℕ) (c c' : Client ℕ) (f : Content) (tag : ℕ)
    → m' ≡ set_mark l.pair l.number m
    → IsEnvelope (envelope.Letter l) → f ≡ send_of (envelope.Letter l) → tag ≡ l.number → c' ≡ receipted f tag c
    → Adds (with_receipt (c.receipts.last + 1) f ∷ []) c.out c'.out → SendsLetters (l ∷ []) (made m c) (made m' c')
sends_one l m m' c c' f tag marks is frame number client wrote = record {
  each = (is, tt);
  all = ap (λ (x : Pair → ℕ). made x c') marks ∙ ap (λ (x : Client ℕ). made (set_mark l.pair l.number m) x)
      (client ∙ ap (λ (x : Content). receipted x tag c) frame
      ∙ ap (λ n. receipted (send_of (envelope.Letter l)) n c) number);
  wrote = subst (λ (x : Content). Adds (with_receipt (c.receipts.last + 1) x ∷ []) c.out c'.out) frame wrote;
}
