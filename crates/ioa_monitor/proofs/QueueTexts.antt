-- Papers on which the items of a queue are put, one after another.
use Rattle.std.proofs.Common.{◌≡◌, ℕ, ◌+◌, ◌<◌, List, [], ◌∷◌, ◌++◌, ◌∙◌, length, map, take, get_or, refl, arith, append-nil}
use Rattle.std.proofs.lemmas.List.{take_more, map-append, length-map, length-take-le}
use Rattle.ioa_values.specs.Data.{Data}
use Rattle.ioa_values.specs.Text.{with_commas, separator, text}
use Rattle.ioa_values.proofs.Commas.{with_commas-push}
use Rattle.ioa_actions.specs.ActionText.{node_action_text}
use Rattle.ioa_actions.specs.declared.action.NodeAction.{NodeAction}
use Rattle.ioa_channels.specs.declared.queue.Item.{Item}
use Rattle.ioa_channels.specs.declared.queue.Item.TheVariants.{Message, Stimulus}
use Rattle.ioa_channels.specs.Queues.{queue_items}
use Rattle.ioa_channels.proofs.Parts.{one_more_message, length_of_parts}
use Rattle.ioa_paper.specs.Papers.{PlainPaper, and_text}
use Rattle.ioa_monitor.specs.Reports.{item_text}
use Rattle.ioa_paper.proofs.Listed.{written_more}

-- the text of one more item
one_more : (names : List (List ℕ)) (items : List Item) (x : Item) → with_commas (map (item_text names) (items ++ x ∷ [])) ≡ with_commas (map (item_text names) items) ++ (separator (length items) ++ item_text names x)
one_more names items x =
    rw (map-append (item_text names) items (x ∷ []), with_commas-push (map (item_text names) items) (item_text names x), length-map items (item_text names)) refl

-- the text of one more stimulus
more_stimuli : (names : List (List ℕ)) (stimuli : List NodeAction) (i : ℕ) (d : NodeAction) → i < length stimuli → with_commas (map (item_text names) (queue_items (take (i + 1) stimuli) [])) ≡ with_commas (map (item_text names) (queue_items (take i stimuli) [])) ++ (separator i ++ node_action_text names (get_or stimuli i d))
more_stimuli names stimuli i d within =
    let many : length (map Stimulus (take i stimuli)) ≡ i = length-map (take i stimuli) Stimulus ∙ length-take-le i stimuli (omega arith) in
    rw (
      append-nil (map Stimulus (take (i + 1) stimuli)),
      append-nil (map Stimulus (take i stimuli)),
      take_more stimuli i d within,
      map-append Stimulus (take i stimuli) (get_or stimuli i d ∷ []),
      one_more names (map Stimulus (take i stimuli)) (Stimulus (get_or stimuli i d)),
      many,
    ) refl

-- the text of one more message
more_messages : (names : List (List ℕ)) (stimuli : List NodeAction) (messages : List Data) (i : ℕ) (d : Data) → i < length messages → with_commas (map (item_text names) (queue_items stimuli (take (i + 1) messages))) ≡ with_commas (map (item_text names) (queue_items stimuli (take i messages))) ++ (separator (length stimuli + i) ++ text names (get_or messages i d))
more_messages names stimuli messages i d within =
    rw (
      take_more messages i d within,
      one_more_message stimuli (take i messages) (get_or messages i d),
      one_more names (queue_items stimuli (take i messages)) (Message (get_or messages i d)),
      length_of_parts stimuli (take i messages),
      length-take-le i messages (omega arith),
    ) refl

-- one more stimulus is put
pub stimuli_more : (names : List (List ℕ)) (p mid next new : PlainPaper) (stimuli : List NodeAction) (i : ℕ) (a : NodeAction)
    → mid ≡ and_text p (with_commas (map (item_text names) (queue_items (take i stimuli) [])))
    → next ≡ and_text mid (separator i) → new ≡ and_text next (node_action_text names a) → i < length stimuli
    → a ≡ get_or stimuli i a
    → new ≡ and_text p (with_commas (map (item_text names) (queue_items (take (i + 1) stimuli) [])))
stimuli_more names p mid next new stimuli i a before apart put within here =
    written_more p mid next new (with_commas (map (item_text names) (queue_items (take i stimuli) []))) (separator i)
    (node_action_text names a) (with_commas (map (item_text names) (queue_items (take (i + 1) stimuli) [])))
    before apart put (more_stimuli names stimuli i a within ∙ rw (← here) refl)

-- one more message is put
pub messages_more : (names : List (List ℕ)) (p mid next new : PlainPaper) (stimuli : List NodeAction) (messages : List Data)
    (i : ℕ) (d : Data) → mid ≡ and_text p (with_commas (map (item_text names) (queue_items stimuli (take i messages))))
    → next ≡ and_text mid (separator (length stimuli + i)) → new ≡ and_text next (text names d) → i < length messages
    → d ≡ get_or messages i d
    → new ≡ and_text p (with_commas (map (item_text names) (queue_items stimuli (take (i + 1) messages))))
messages_more names p mid next new stimuli messages i d before apart put within here =
    written_more p mid next new (with_commas (map (item_text names) (queue_items stimuli (take i messages))))
    (separator (length stimuli + i)) (text names d)
    (with_commas (map (item_text names) (queue_items stimuli (take (i + 1) messages))))
    before apart put (more_messages names stimuli messages i d within ∙ rw (← here) refl)
