-- What is told of one call after another.
use Rattle.std.proofs.Common.{Option, Some, None}
use Rattle.os_io.specs.Streams.{BothTold}

-- what stood before stands
pub tells_same : {X : Type 0} (x : Option X) (R : X → X → Type 0) → ((a : X) → R a a) → BothTold x x R
tells_same None R p = tt
tells_same (Some x) R p = p x

-- what is told of one step after another
pub tells_on : {X : Type 0} (x y z : Option X) (P Q R : X → X → Type 0) → ((a b c : X) → P a b → Q b c → R a c) → BothTold x y P → BothTold y z Q → BothTold x z R
tells_on None y z P Q R f p q = tt
tells_on (Some x) None z P Q R f p q = absurd p
tells_on (Some x) (Some y) None P Q R f p q = absurd q
tells_on (Some x) (Some y) (Some z) P Q R f p q = f x y z p q

-- what follows from what is told
pub tells_map : {X : Type 0} (x y : Option X) (P Q : X → X → Type 0) → ((a b : X) → P a b → Q a b) → BothTold x y P → BothTold x y Q
tells_map None y P Q f p = tt
tells_map (Some x) None P Q f p = absurd p
tells_map (Some x) (Some y) P Q f p = f x y p
