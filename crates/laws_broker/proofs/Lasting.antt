-- A client accepts each frame that it reads.
use Rattle.std.proofs.Common.{◌≡◌, ℕ, ◌+◌, ◌-◌, ◌<◌, ◌≤◌, ◌^◌, false, List, [], ◌∷◌, ◌++◌, codes, decimal, Option, Some}
use Rattle.std.proofs.Common.{None, Result}
use Rattle.std.proofs.Common.{Ok, Err, refl, sym, ap, ◌∙◌, subst, append_assoc, arith}
use Rattle.std.specs.Prelude.{IsOk}
use Rattle.std.specs.List.{AllByRecursion, Contains}
use Rattle.std.proofs.lemmas.List.{append-nil}
use Rattle.std.proofs.lemmas.List.Elements.{Contains-append_left, Contains-push}
use Rattle.text.proofs.Digits.{number_read}
use Rattle.receipts.specs.Books.{ReceiptBook, closed as closing_number, opened as opening}
use Rattle.stomp_frame.specs.declared.command.Command.{Command}
use Rattle.stomp_frame.specs.declared.command.Command.TheVariants as command
use Rattle.stomp_frame.specs.Frames.{Content, Header, value_of}
use Rattle.stomp_session.proofs.Owning.{all_append}
use Rattle.stomp_session.specs.Replies.{receipt_frame, receipt_told}
use Rattle.stomp_client.specs.Accepting.{Accepts, TellsFrame, is_open, receipt_number}
use Rattle.stomp_client.specs.Clients.{Client}
use Rattle.stomp_client.specs.Frames.{connect_frame, with_receipt}
use Rattle.stomp_client.specs.Served.{IsClients, IsTakeable, sends_with_receipt}
use Rattle.stomp_client.specs.declared.event.ClientEvent.{ClientEvent}
use Rattle.stomp_client.specs.declared.event.ClientEvent.TheVariants as event
use Rattle.stomp_client.specs.declared.fault.ClientFault.{ClientFault}
use Rattle.stomp_client.specs.declared.session.Stage.{Stage}
use Rattle.stomp_client.specs.declared.session.Stage.TheVariants.{Connecting}
use Rattle.laws_broker.specs.Carried.{IsFed, decided_all}
use Rattle.laws_broker.specs.Conversations.{AcceptsAll, TellsOpen}
use Rattle.laws_broker.specs.Lifetime.{IsServed, NothingIsRefused, Went, connects, reads, sends, writes}
use Rattle.laws_broker.specs.Written.{IsAsked, IsBrought, IsLater, listed, message, receipt, receipt_by, receipts_asked}
use Rattle.laws_broker.specs.Written.{receipts_in}
use Rattle.laws_broker.proofs.Asking.{clients_ask_for_acks}
use Rattle.laws_broker.proofs.Carrying.{receipts_first, receipts_were_asked, told_later}
use Rattle.laws_broker.proofs.Conversing.{brokers_are_read, clients_take_all}
use Rattle.laws_broker.proofs.Lists.{all_split}
use Rattle.laws_broker.proofs.Receipts.{AreNumerals, AreTags, asked_last, first_closed, first_open, next_numeral}
use Rattle.laws_broker.proofs.Receipts.{none_told, number_told}
use Rattle.laws_broker.proofs.Receipts.{one_numeral, one_tag}

-- ---- a RECEIPT that is read

receipt_later : (f : Content) (n : ℕ) (wrote read : List Content) (h : IsServed wrote (read ++ f ∷ []))
    → IsLater (IsBrought h.calls) (IsAsked h.calls) n f → f.command ≡ command.Receipt → (v : List ℕ)
    × (f ≡ receipt_frame v)
receipt_later f n wrote read h (message d is asks here goes ack e) k =
    absurd (let z : command.Message ≡ command.Receipt = sym (ap (λ (g : Content). g.command) e) ∙ k in cc)
receipt_later f n wrote read h (receipt v e) k = (v, e)

is_receipt : (f : Content) (wrote read : List Content) → IsServed wrote (read ++ f ∷ []) → f.command ≡ command.Receipt
    → (v : List ℕ) × (f ≡ receipt_frame v)
is_receipt f wrote read h k =
    let r = brokers_are_read h.full h.calls h.broker h.number h.waiting h.carried (read ++ f ∷ []) h.held h.lives
    h.comes in
    let among : Contains r.speaks.frames f =
    rw r.whole (Contains-append_left (read ++ f ∷ []) r.others f (Contains-push read f)) in
    let later = told_later (IsLater (IsBrought h.calls) (IsAsked h.calls) h.number) r.speaks.connected r.speaks.closed
    r.speaks.frames f
    command.Receipt (λ e. cc) (λ e. cc) r.speaks.told among k in
    receipt_later f h.number wrote read h later k

-- the receipts that are told with it are the first of those that were asked for
told_with : (f : Content) (wrote read : List Content) (v : List ℕ) → IsServed wrote (read ++ f ∷ [])
    → f ≡ receipt_frame v
    → (others : List (List ℕ)) × (receipts_asked (decided_all false wrote) ≡ receipts_in read ++ v ∷ others)
told_with f wrote read v h e =
    let r = receipts_were_asked h.full h.calls h.broker h.number wrote h.waiting h.carried (read ++ f ∷ []) h.held
    h.lives h.fed h.comes in
    let one : receipts_in (f ∷ []) ≡ v ∷ [] = ap (λ (g : Content). receipts_in (g ∷ [])) e in (
      r.0,
      r.1 ∙ ap (λ (l : List (List ℕ)). l ++ r.0) (receipts_first (read ++ f ∷ []) read (f ∷ []) refl)
          ∙ append_assoc (receipts_in read) (receipts_in (f ∷ [])) r.0
          ∙ ap (λ (l : List (List ℕ)). receipts_in read ++ (l ++ r.0)) one,
    )

other_receipts : (c : Command) (hs : List Header) → (c ≡ command.Receipt → ⊥) → receipt_by c hs ≡ []
other_receipts command.Receipt hs k = absurd (k refl)
other_receipts _ hs k = refl

module _ (T : Type 0) where
  abbrev Answers : Type 0
  Answers = List (Result (ClientEvent T) ClientFault)

  -- frames are accepted one after another, from one stage to another
  abbrev AcceptsTo : Stage → List Content → Answers → Stage → Type 0
  AcceptsTo stage [] answers last = (answers ≡ []) × (stage ≡ last)
  AcceptsTo stage (f ∷ frames) answers last =
      (old : Client T) × ((new : Client T) × ((answer : Result (ClientEvent T) ClientFault) ×
      ((others : Answers) × ((answers ≡ answer ∷ others) × (old.stage ≡ stage) × TellsOpen f old
      × Accepts f old new answer × AcceptsTo new.stage frames others last))))

  forget : (stage : Stage) (frames : List Content) (answers : Answers) (last : Stage)
      → AcceptsTo stage frames answers last
      → AcceptsAll {T = T} stage frames answers
  forget stage [] answers last h = h.0
  forget stage (f ∷ frames) answers last h =
      let k = h.1.1.1.1 in
      (h.0, (h.1.0, (h.1.1.0, (h.1.1.1.0, (k.0, k.1, k.2, k.3, forget h.1.0.stage frames h.1.1.1.0 last k.4)))))

  accepts_one : (stage : Stage) (frames : List Content) (answers : Answers) (last : Stage) (f : Content)
      (old new : Client T)
      (answer : Result (ClientEvent T) ClientFault) → AcceptsTo stage frames answers last → old.stage ≡ last
      → TellsOpen f old
      → Accepts f old new answer → AcceptsTo stage (frames ++ f ∷ []) (answers ++ answer ∷ []) new.stage
  accepts_one stage [] answers last f old new answer h here tells a =
      (old, (new, (answer, ([], (ap (λ (l : Answers). l ++ answer ∷ []) h.0, here ∙ sym h.1, tells, a, (refl, refl))))))
  accepts_one stage (g ∷ frames) answers last f old new answer h here tells a =
      let k = h.1.1.1.1 in (
        h.0,
        (
          h.1.0,
          (
            h.1.1.0,
            (
              h.1.1.1.0 ++ answer ∷ [],
              (
                ap (λ (l : Answers). l ++ answer ∷ []) k.0,
                k.1,
                k.2,
                k.3,
                accepts_one h.1.0.stage frames h.1.1.1.0 last f old new answer k.4 here tells a,
              ),
            ),
          ),
        ),
      )

  -- what stands of a client that went on
  record Stays (wrote read : List Content) (book : ReceiptBook T) (stage : Stage) : Type 0 where
    frames : List Content
    all : AllByRecursion IsClients frames
    wrote_is : wrote ≡ connect_frame ∷ frames
    asked : AreNumerals 0 book.last (receipts_asked (decided_all false wrote))
    small : book.last < 2 ^ 64
    told : ℕ
    numbers : AreNumerals 0 told (receipts_in read)
    tags : AreTags {T = T} told book.last book.tags
    answers : Answers
    chain : AcceptsTo Connecting read answers stage

  -- the RECEIPT that is read tells the next number, which is open
  record IsNext (f : Content) (told last : ℕ) : Type 0 where
    number : receipt_number f ≡ Some (told + 1)
    value : receipts_in (f ∷ []) ≡ decimal (told + 1) ∷ []
    low : told + 1 ≤ last

  next_is : (f : Content) (wrote read : List Content) (book : ReceiptBook T) (stage : Stage)
      (h : Stays wrote read book stage)
      → IsServed wrote (read ++ f ∷ []) → f.command ≡ command.Receipt → IsNext f h.told book.last
  next_is f wrote read book stage h served k =
      let v = is_receipt f wrote read served k in
      let t = told_with f wrote read v.0 served v.1 in
      let n = next_numeral 0 book.last h.told (receipts_in read) v.0 t.0 (subst (AreNumerals 0 book.last) t.1 h.asked)
      h.numbers in
      let is : f ≡ receipt_frame (decimal (h.told + 1)) = v.1 ∙ ap receipt_frame n.0 in
      record {
        number = ap receipt_number is ∙ number_read (h.told + 1) (omega (arith, n.1, h.small));
        value = ap (λ (g : Content). receipts_in (g ∷ [])) is;
        low = n.1;
      }

  -- the receipts that are told once a frame is read, and those that are open
  record Tallies (f : Content) (read : List Content) (book after : ReceiptBook T) : Type 0 where
    last : after.last ≡ book.last
    told : ℕ
    numbers : AreNumerals 0 told (receipts_in (read ++ f ∷ []))
    tags : AreTags {T = T} told after.last after.tags

  module _ (f : Content) (wrote read : List Content) (book : ReceiptBook T) (stage : Stage)
      (h : Stays wrote read book stage)
      (served : IsServed wrote (read ++ f ∷ [])) (old new : Client T) (same : old.receipts ≡ book)
      (here : old.stage ≡ stage) where
    tells_open : TellsOpen f old
    tells_open k =
        let n = next_is f wrote read book stage h served k in
        ap (λ (b : ReceiptBook T). is_open b (receipt_number f)) same ∙ ap (is_open book) n.number
        ∙ first_open h.told book.last book.tags h.tags n.low

    -- the answer is an event
    answer_ok : (answer : Result (ClientEvent T) ClientFault) → Accepts f old new answer → IsOk answer
    answer_ok answer a =
        let all = h.answers ++ answer ∷ [] in
        let chain = accepts_one Connecting read h.answers stage f old new answer h.chain here tells_open a in
        let fed = subst (IsFed served.calls served.number) h.wrote_is served.fed in
        let asks =
        clients_ask_for_acks served.full served.calls served.broker served.number h.frames served.lives h.all fed in
        let each = clients_take_all T served.full served.calls served.broker served.number served.waiting served.carried
        (read ++ f ∷ [])
        served.held all served.lives served.comes asks (forget Connecting (read ++ f ∷ []) all new.stage chain) in
        (all_split (λ r. IsOk r) h.answers (answer ∷ []) each).1.0

    none_more : (f.command ≡ command.Receipt → ⊥) → receipts_in (read ++ f ∷ []) ≡ receipts_in read
    none_more k = receipts_first (read ++ f ∷ []) read (f ∷ []) refl
        ∙ ap (λ (l : List (List ℕ)). receipts_in read ++ (l ++ [])) (other_receipts f.command f.headers k)
        ∙ append-nil (receipts_in read)

    others_tally : (f.command ≡ command.Receipt → ⊥) → new.receipts ≡ old.receipts → Tallies f read book new.receipts
    others_tally k e = subst (Tallies f read book) (sym (e ∙ same)) (record {
      last = refl;
      told = h.told;
      numbers = subst (AreNumerals 0 h.told) (sym (none_more k)) h.numbers;
      tags = h.tags;
    })

    apart : (c : Command) → f.command ≡ c → (c ≡ command.Receipt → ⊥) → f.command ≡ command.Receipt → ⊥
    apart c e other k = other (sym e ∙ k)

    told_tally : (e : ClientEvent T) → TellsFrame f old new e → Tallies f read book new.receipts
    told_tally event.Connected k =
        others_tally (apart command.Connected k.0 (λ z. cc)) (ap (λ (c : Client T). c.receipts) k.1)
    told_tally (event.Message m) k = others_tally
        (apart command.Message (ap (λ (g : Content). g.command) (sym k.0) ∙ k.1.command) (λ z. cc))
        (ap (λ (c : Client T). c.receipts) k.2)
    told_tally (event.Error text) k =
        others_tally (apart command.Error k.0 (λ z. cc)) (ap (λ (c : Client T). c.receipts) k.2)
    told_tally (event.Receipt number tag) k =
        let n = next_is f wrote read book stage h served k.0 in
        let some : Some number ≡ Some (h.told + 1) = sym k.1 ∙ n.number in
        let it : number ≡ h.told + 1 = cc in
        let is : new.receipts ≡ closing_number (h.told + 1) book =
        ap (λ (c : Client T). c.receipts) k.3 ∙ ap (closing_number number) same
        ∙ ap (λ (i : ℕ). closing_number i book) it in
        let told : receipts_in (read ++ f ∷ []) ≡ receipts_in read ++ decimal (h.told + 1) ∷ [] =
        receipts_first (read ++ f ∷ []) read (f ∷ []) refl ∙ ap (λ (l : List (List ℕ)). receipts_in read ++ l) n.value
        in
        subst (Tallies f read book) (sym is) (record {
          last = refl;
          told = h.told + 1;
          numbers =
              subst (AreNumerals 0 (h.told + 1)) (sym told) (one_numeral 0 h.told (receipts_in read) _ refl h.numbers);
          tags = first_closed h.told book.last book.tags h.tags n.low;
        })

    tally : (answer : Result (ClientEvent T) ClientFault) → IsOk answer → Accepts f old new answer
        → Tallies f read book new.receipts
    tally (Ok e) ok a = told_tally e a.1
    tally (Err x) ok a = absurd cc

    reads_stays : (answer : Result (ClientEvent T) ClientFault) → Accepts f old new answer
        → Stays wrote (read ++ f ∷ []) new.receipts new.stage
    reads_stays answer a =
        let t = tally answer (answer_ok answer a) a in
        record {
          frames = h.frames;
          all = h.all;
          wrote_is = h.wrote_is;
          asked = subst (λ (i : ℕ). AreNumerals 0 i (receipts_asked (decided_all false wrote))) (sym t.last) h.asked;
          small = rw t.last h.small;
          told = t.told;
          numbers = t.numbers;
          tags = t.tags;
          answers = h.answers ++ answer ∷ [];
          chain = accepts_one Connecting read h.answers stage f old new answer h.chain here tells_open a;
        }

  -- ---- what a client writes

  one_asked : (wrote read : List Content) (book : ReceiptBook T) (stage : Stage) (h : Stays wrote read book stage)
      (f : Content)
      → IsClients f
      → receipts_asked (decided_all false (wrote ++ f ∷ [])) ≡ receipts_asked (decided_all false wrote)
      ++ listed (receipt_told f)
  one_asked wrote read book stage h f is =
      ap (λ (l : List Content). receipts_asked (decided_all false (l ++ f ∷ []))) h.wrote_is ∙ asked_last h.frames f is
      ∙ ap (λ (l : List Content). receipts_asked (decided_all false l) ++ listed (receipt_told f)) (sym h.wrote_is)

  writes_stays : (wrote read : List Content) (book : ReceiptBook T) (stage : Stage) (f : Content)
      → Stays wrote read book stage
      → IsClients f
      → value_of (codes "receipt") f.headers ≡ None → Stays (wrote ++ f ∷ []) read book stage
  writes_stays wrote read book stage f h is none =
      let same : receipts_asked (decided_all false (wrote ++ f ∷ [])) ≡ receipts_asked (decided_all false wrote) =
      one_asked wrote read book stage h f is
      ∙ ap (λ (o : Option (List ℕ)). receipts_asked (decided_all false wrote) ++ listed o) (none_told f none)
      ∙ append-nil (receipts_asked (decided_all false wrote)) in
      record {
        frames = h.frames ++ f ∷ [];
        all = all_append IsClients h.frames (f ∷ []) h.all (is, tt);
        wrote_is = ap (λ (l : List Content). l ++ f ∷ []) h.wrote_is;
        asked = subst (AreNumerals 0 book.last) (sym same) h.asked;
        small = h.small;
        told = h.told;
        numbers = h.numbers;
        tags = h.tags;
        answers = h.answers;
        chain = h.chain;
      }

  sends_stays : (wrote read : List Content) (book : ReceiptBook T) (stage : Stage) (m : Content) (tag : T)
      → Stays wrote read book stage
      → IsTakeable m → book.last < 2 ^ 64 - 1
      → Stays (wrote ++ with_receipt (book.last + 1) m ∷ []) read (opening tag book) stage
  sends_stays wrote read book stage m tag h is room =
      let f = with_receipt (book.last + 1) m in
      let small : book.last + 1 < 2 ^ 64 = omega (arith, room) in
      let client : IsClients f = sends_with_receipt m (book.last + 1) is small refl in
      let same : receipts_asked (decided_all false (wrote ++ f ∷ []))
      ≡ receipts_asked (decided_all false wrote) ++ decimal (book.last + 1) ∷ [] =
      one_asked wrote read book stage h f client
      ∙ ap (λ (o : Option (List ℕ)). receipts_asked (decided_all false wrote) ++ listed o)
      (number_told m (book.last + 1) is small) in
      record {
        frames = h.frames ++ f ∷ [];
        all = all_append IsClients h.frames (f ∷ []) h.all (client, tt);
        wrote_is = ap (λ (l : List Content). l ++ f ∷ []) h.wrote_is;
        asked = subst (AreNumerals 0 (book.last + 1)) (sym same) (one_numeral 0 book.last _ _ refl h.asked);
        small = small;
        told = h.told;
        numbers = h.numbers;
        tags = one_tag h.told book.last book.tags tag h.tags;
        answers = h.answers;
        chain = h.chain;
      }

  stays : (wrote read : List Content) (book : ReceiptBook T) (stage : Stage) → Went T wrote read book stage
      → Stays wrote read book stage
  stays _ _ _ _ connects = record {
    frames = [];
    all = tt;
    wrote_is = refl;
    asked = refl;
    small = omega arith;
    told = 0;
    numbers = refl;
    tags = refl;
    answers = [];
    chain = (refl, refl);
  }
  stays _ _ _ _ (writes wrote read book stage f w is none) =
      writes_stays wrote read book stage f (stays wrote read book stage w) is none
  stays _ _ _ _ (sends wrote read book stage m tag w is room) =
      sends_stays wrote read book stage m tag (stays wrote read book stage w) is room
  stays _ _ _ _ (reads wrote read book stage f old new answer w served same here a) =
      reads_stays f wrote read book stage (stays wrote read book stage w) served old new same here answer a

  pub nothing_is_refused : NothingIsRefused T
  nothing_is_refused wrote read book stage f old new answer w served same here a =
      answer_ok f wrote read book stage (stays wrote read book stage w) served old new same here answer a
