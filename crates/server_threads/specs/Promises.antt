-- What runs in a thread, or was run in place of one.
use Rattle.server_threads.specs.declared.places.Started.{Started}
use Rattle.server_threads.specs.declared.places.Started.TheVariants.{Thread, Here}

module _ {T P : Type 0} where
  -- what was promised of the result
  abbrev pub promise_of : Started T P → P
  promise_of (Thread child) = child.promise
  promise_of (Here done promise) = promise

  -- a result that is here is as was promised
  abbrev pub Due : (P → T → Type 0) → Started T P → Type 0
  Due kept (Thread child) = Unit {0}
  Due kept (Here done promise) = kept promise done
