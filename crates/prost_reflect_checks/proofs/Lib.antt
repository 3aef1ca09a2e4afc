mod Common
mod ListedSpans
