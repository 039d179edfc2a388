mod PastContents
