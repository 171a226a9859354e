-- What the functions of crate zvt report of a message, by its bytes. Definitions only.
use Rattle.std.specs.Prelude.{◌≡◌, Bool, true, ◌↔◌, List, [], ◌∷◌, ◌++◌, ℕ, ◌+◌, length}
use Rattle.zvt_rules.specs.declared.Outline.{Outline}
use Rattle.zvt_rules.specs.Objects.{Obj, leaf, branch, Objs, none, more}
use Rattle.zvt_rules.specs.Fields.{Field, plain, container}
use Rattle.zvt_rules.specs.Message.{Body, bytes, listed, Message}
use Rattle.zvt_rules.specs.believed.Digits.{SaysBody}
use Rattle.zvt_rules.specs.believed.Values.{Is}
use Rattle.zvt_rules.specs.believed.Shortest.{Fewest}

-- M1: "A message is a class byte, an instruction byte, a length and a body of that many bytes.": where the body starts, and its length
pub record Framed (s : List ℕ) (class instruction start size : ℕ) : Type 0 where
  pub long : Bool
  pub lead : List ℕ
  pub body : List ℕ
  pub says : SaysBody long lead (length body)
  pub whole : class ∷ (instruction ∷ (lead ++ body)) ≡ s
  pub sized : size ≡ length body
  pub ends : start + size ≡ length s

-- O10: "inner ones counted, an object before those inside it": all the objects of a run, of a list, of a body
unfoldable mutual
  pub in_obj : Obj → List Obj
  in_obj (leaf tag form value) = leaf tag form value ∷ []
  in_obj (branch tag form os) = branch tag form os ∷ in_run os

  pub in_run : Objs → List Obj
  in_run none = []
  in_run (more o os) = in_obj o ++ in_run os

unfoldable pub in_list : List Field → List Obj
in_list [] = []
in_list (plain id value ∷ fs) = in_list fs
in_list (container form os ∷ fs) = in_run os ++ in_list fs

unfoldable pub in_body : Body → List Obj
in_body (bytes s) = []
in_body (listed password fs) = in_list fs

-- M9: "The reader reports pair, start and length of the body, number of data objects (O11), and whether the message is shortest."
pub record Reported (s : List ℕ) (o : Outline) : Type 0 where
  pub message : Message
  pub accepted : Is s message
  pub framed : Framed s o.class o.instruction o.start o.length
  pub objects : o.objects ≡ length (in_body message.body)
  pub shortest : (o.shortest ≡ true) ↔ Fewest message

-- the message that s begins with, and where the next begins
unfoldable pub FirstReported : List ℕ → Outline → ℕ → Type 0
FirstReported s o next = (front : List ℕ) × (rest : List ℕ) × (s ≡ front ++ rest) × (next ≡ length front) × Reported front o

-- R33: "Success leaves the bytes of a lent buffer behind those written as they were."
unfoldable pub Over : List ℕ → List ℕ → List ℕ → Type 0
Over w out after = (gone : List ℕ) × (kept : List ℕ) × (out ≡ gone ++ kept) × (length gone ≡ length w) × (after ≡ w ++ kept)
